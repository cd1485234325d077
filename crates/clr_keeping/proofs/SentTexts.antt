-- What went out of a journal that is printed piece by piece.
use Rattle.std.proofs.Common.{◌≡◌, ◌≢◌, ◌⊎◌, ◌∙◌, ap, inl, inr, refl, subst, sym, ℕ, List, [], ◌++◌, append_assoc, append-nil}
use Rattle.std.specs.Prelude.{None, Option, Some, string_bytes}
use Rattle.std.specs.Io.KnownBytes.{Appends}
use Rattle.clr_stream.specs.Failures.{Rose}
use Rattle.clr_stream.specs.Streams.{HasFailed, IsCut, Stream, WentOut}
use Rattle.clr_chain.specs.Walking.{Step}
use Rattle.clr_args.specs.declared.asked.JournalArgs.{JournalArgs}
use Rattle.clr_edge.specs.declared.fault.Fault.{Fault}
use Rattle.clr_edge.specs.declared.fault.Fault.TheVariants.{Output}
use Rattle.clr_keeping.specs.Journal.{SentSome, journal_text}
use Rattle.clr_keeping.specs.Printing.{FailsOn, HasPrinted, IsCutOf, IsText, PrintsOn, SentOut}
use Rattle.clr_keeping.specs.declared.journal.Kind.{Kind}
use Rattle.clr_keeping.specs.declared.journal.Printing.{Printing}
use Rattle.clr_keeping.proofs.StepTexts.{text_front}

-- ---- known bytes
appends-trans : (a b c : Option (List ℕ)) (x y : List ℕ) → Appends a b x → Appends b c y → Appends a c (x ++ y)
appends-trans None b c x y first next = tt
appends-trans (Some before) None c x y first next = absurd first
appends-trans (Some before) (Some middle) None x y first next = absurd next
appends-trans (Some before) (Some middle) (Some after) x y first next = next ∙ ap (λ (l : List ℕ). l ++ y) first ∙ append_assoc before x y

-- the same of what went out, or did not
appends-sent : (o p : Stream) (c : Option (List ℕ)) (x y : List ℕ) → WentOut o p x ⊎ ((x ≡ []) × (p ≡ o)) → Appends p.contents c y → Appends o.contents c (x ++ y)
appends-sent o p c x y (inl went) next = appends-trans o.contents p.contents c x y went.0 next
appends-sent o p c x y (inr (empty, same)) next =
    subst (λ (l : List ℕ). Appends o.contents c (l ++ y)) (sym empty) (subst (λ (s : Stream). Appends s.contents c y) same next)

-- ---- texts

-- a text more went out
pub sent_more : (o p q : Stream) (x y : List ℕ) → SentOut o p x → WentOut p q y → q.failures ≡ p.failures → q.stalls ≡ p.stalls → SentOut o q (x ++ y)
sent_more o p q x y out went failures stalls = record {
  went = inl (appends-sent o p q.contents x y out.went went.0, went.1);
  failures = failures ∙ out.failures;
  stalls = stalls ∙ out.stalls;
}

pub went_out : (o p q : Stream) (x y : List ℕ) → SentOut o p x → WentOut p q y → WentOut o q (x ++ y)
went_out o p q x y out went = (appends-sent o p q.contents x y out.went went.0, went.1)

-- or went out in part
failed_more : (o p q : Stream) → p.failures ≡ o.failures → p.stalls ≡ o.stalls → HasFailed p q → HasFailed o q
failed_more o p q failures stalls (inl rose) = inl (subst (λ (n : ℕ). Rose n q.failures) failures rose)
failed_more o p q failures stalls (inr (same, rose)) = inr (same ∙ failures, subst (λ (n : ℕ). Rose n q.stalls) stalls rose)

pub cut_more : (o p q : Stream) (x y more text : List ℕ) → SentOut o p x → IsCut p q y → text ≡ (x ++ y) ++ more → IsCut o q text
cut_more o p q x y more text out ((front, rest, is, appends), failed) is_text = (
  (
    x ++ front,
    rest ++ more,
    is_text
        ∙ append_assoc x y more
        ∙ ap (λ (l : List ℕ). x ++ (l ++ more)) is
        ∙ ap (λ (l : List ℕ). x ++ l) (append_assoc front rest more)
        ∙ sym (append_assoc x front (rest ++ more)),
    appends-sent o p q.contents x front out.went appends,
  ),
  failed_more o p q out.failures out.stalls failed,
)

pub sent_some : (o p : Stream) (x : List ℕ) → SentOut o p x → SentSome o p
sent_some o p x out = by out.went
  where
    by : WentOut o p x ⊎ ((x ≡ []) × (p ≡ o)) → SentSome o p
    by (inl went) = inr (x, went)
    by (inr (empty, same)) = inl same

pub sent_none : (o : Stream) → SentOut o o []
sent_none o = record { went = inr (refl, refl); failures = refl; stalls = refl }

-- what is held was cut as it went out
pub cut_of : (args : JournalArgs) (o p q : Stream) (steps : List Step) (it : Printing) → HasPrinted args o steps it p → IsCut p q (string_bytes it.text) → IsCutOf args o q steps
cut_of args o p q steps it had cut =
    let (more, front) = text_front args had.wanted steps (had.sent ++ string_bytes it.text) it.kind had.text in
    (had.wanted, had.wanted_is, cut_more o p q had.sent (string_bytes it.text) more (journal_text args had.wanted steps) had.went cut front)

-- ---- from one state to another

pub PrintsOn-none : (it : Printing) (o : Stream) → PrintsOn it o [] it o
PrintsOn-none it o = record { printed = λ args output had is. subst (λ (l : List Step). HasPrinted args output l it o) (sym (append-nil had)) is }

pub PrintsOn-more : (old middle new : Printing) (o p q : Stream) (first next : List Step) → PrintsOn old o first middle p → PrintsOn middle p next new q
    → PrintsOn old o (first ++ next) new q
PrintsOn-more old middle new o p q first next here there = record {
  printed = λ args output had is.
      subst (λ (l : List Step). HasPrinted args output l new q) (append_assoc had first next)
      (there.printed args output (had ++ first) (here.printed args output had is));
}

-- what failed after these steps
pub FailsOn-more : (old middle : Printing) (o p q : Stream) (first next : List Step) (fault : Fault) → PrintsOn old o first middle p → FailsOn middle p next fault q
    → FailsOn old o (first ++ next) fault q
FailsOn-more old middle o p q first next fault here there = record {
  sent = λ other args output had is. there.sent other args output (had ++ first) (here.printed args output had is);
  cut = λ of args output had is.
      subst (λ (l : List Step). IsCutOf args output q l) (append_assoc had first next)
      (there.cut of args output (had ++ first) (here.printed args output had is));
}

-- nothing more went out
pub FailsOn-quiet : (it : Printing) (o : Stream) (steps : List Step) (fault : Fault) → fault ≢ Output → FailsOn it o steps fault o
FailsOn-quiet it o steps fault other = record {
  sent = λ _ args output had is. sent_some output o (HasPrinted.sent is) (HasPrinted.went is);
  cut = λ of args output had is. absurd (other of);
}

-- nothing after these steps
pub FailsOn-after : (old middle : Printing) (o p : Stream) (first : List Step) (fault : Fault) → fault ≢ Output → PrintsOn old o first middle p → FailsOn old o first fault p
FailsOn-after old middle o p first fault other here = record {
  sent = λ _ args output had is. sent_some output p (HasPrinted.sent (here.printed args output had is)) (HasPrinted.went (here.printed args output had is));
  cut = λ of args output had is. absurd (other of);
}

-- ---- what is held is sent

pub sent_text : (it new : Printing) (o p q : Stream) (args : JournalArgs) (had : List Step) → HasPrinted args o had it p
    → WentOut p q (string_bytes it.text) → q.failures ≡ p.failures → q.stalls ≡ p.stalls
    → string_bytes new.text ≡ [] → new.kind ≡ it.kind → new.bad ≡ it.bad → HasPrinted args o had new q
sent_text it new o p q args had is went failures stalls empty kind same_bad = record {
  wanted = is.wanted;
  wanted_is = is.wanted_is;
  sent = is.sent ++ string_bytes it.text;
  went = sent_more o p q is.sent (string_bytes it.text) is.went went failures stalls;
  text =
      let all : (is.sent ++ string_bytes it.text) ++ string_bytes new.text ≡ is.sent ++ string_bytes it.text =
      ap (λ (l : List ℕ). (is.sent ++ string_bytes it.text) ++ l) empty ∙ append-nil (is.sent ++ string_bytes it.text) in
      subst (λ (l : List ℕ). IsText args is.wanted had l new.kind) (sym all)
      (subst (λ (k : Kind). IsText args is.wanted had (is.sent ++ string_bytes it.text) k) (sym kind) is.text);
  bad_is = same_bad ∙ is.bad_is;
}
