use Rattle.clr_checking.proofs.deeds.carry_archive.Goals as goal

pub returns-clause-register : goal.returns-clause-register
returns-clause-register c = c.in_ok-archive_here.ensures.register c.requires
