-- A DESK as one who keeps a register, by what keeps its changes.
use Rattle.clr_desk.specs.Given.{LeadsTo}
use Rattle.clr_desk.specs.declared.commit.Commit as commit
use Rattle.clr_desk.specs.declared.desk.Desk.{Desk}
use Rattle.clr_http.specs.Desks.{DeskTakes}
use Rattle.clr_http.specs.declared.registrar.Registrar as registrar

abbrev pub desk_keeps : {K : Type 0} → commit.Ghosts K → registrar.Ghosts (Desk K)
desk_keeps by = record {
  keeper = λ d. record { register = d.book.register; faults = d.faults };
  leads_to = LeadsTo by.kept by.takes;
  takes = DeskTakes by.takes;
  doubts = λ d. by.doubts d.store;
}
