-- Texts that are written piece by piece, and where that stops.
use Rattle.std.proofs.Common.{◌≡◌, ◌⊎◌, inl, inr, ℕ, true, List, ◌++◌, sym, ◌∙◌, Ok, Err, Result}
use Rattle.ghg_outer.specs.Tape.{Appends, Tape}
use Rattle.ghg_outer.proofs.Tapes.{appends_more, longer_proper, proper_behind}
use Rattle.ghg_words.specs.declared.status.Status.{Status}
use Rattle.ghg_words.specs.declared.status.Status.TheVariants.{OutputFailed, OutOfMemory}
use Rattle.ghg_session.specs.Writing.{StoppedWriting, WritesAll}

-- a text behind
pub stopped_early : (a b : Tape) (xs ys : List ℕ) (stop : Status) → StoppedWriting a b xs stop → StoppedWriting a b (xs ++ ys) stop
stopped_early a b xs ys stop s =
    record { wrote = longer_proper a b xs ys s.wrote; why = s.why }

stopped_later : (a b c : Tape) (xs ys : List ℕ) (stop : Status) → Appends a b xs → StoppedWriting b c ys stop
    → StoppedWriting a c (xs ++ ys) stop
stopped_later a b c xs ys stop p s = record { wrote = proper_behind a b c xs ys p s.wrote; why = by s.why }
  where
    by : (stop ≡ OutputFailed) ⊎ ((stop ≡ OutOfMemory) × (b.grows ≡ true))
        → (stop ≡ OutputFailed) ⊎ ((stop ≡ OutOfMemory) × (a.grows ≡ true))
    by (inl e) = inl e
    by (inr e) = inr (e.0, sym p.grows ∙ e.1)

pub writes_more : {T : Type 0} (a b c : Tape) (xs ys : List ℕ) (result : Result T Status) → Appends a b xs → WritesAll b c ys result
    → WritesAll a c (xs ++ ys) result
writes_more a b c xs ys (Ok v) p q = appends_more a b c xs ys p q
writes_more a b c xs ys (Err stop) p q = stopped_later a b c xs ys stop p q
