-- Why a series is not spliced, and what is due where a step refuses.
use Rattle.std.specs.Prelude.{◌≡◌, ℕ, List, ◌++◌, ⊤, codes, decimal, Result, Ok, Err}
use Rattle.ghg_splice.specs.declared.refusal.SpliceRefusal.{SpliceRefusal}
use Rattle.ghg_splice.specs.declared.refusal.SpliceRefusal.TheVariants.{TooLong, BadRow, NoBase, ZeroRange, Over}
use Rattle.ghg_splice.specs.declared.refusal.Stop.{Stop}
use Rattle.ghg_splice.specs.declared.refusal.Stop.TheVariants.{Refusal, Memory}

abbrev pub numbered : List ℕ → ℕ → List ℕ
numbered words n = words ++ decimal n

abbrev pub refusal_text : SpliceRefusal → List ℕ
refusal_text TooLong = codes "not spliced: too long"
refusal_text (BadRow row) = numbered (codes "not spliced: row ") row
refusal_text NoBase = codes "not spliced: no base"
refusal_text (ZeroRange year) = numbered (codes "not spliced: zero ") year
refusal_text (Over year) = numbered (codes "not spliced: over ") year

-- the first refusal of two steps
infixl 10 ◌>>=◌
abbrev pub ◌>>=◌ : {X Y : Type 0} →
    Result X SpliceRefusal → (X → Result Y SpliceRefusal) → Result Y SpliceRefusal
(Ok x) >>= f = f x
(Err refusal) >>= f = Err refusal

-- two parts, or the first refusal
abbrev pub joined : {X : Type 0} →
    Result (List X) SpliceRefusal → Result (List X) SpliceRefusal → Result (List X) SpliceRefusal
joined (Ok front) (Ok back) = Ok (front ++ back)
joined (Ok front) (Err refusal) = Err refusal
joined (Err refusal) later = Err refusal

-- an answer is what is due, unless memory is wanting
abbrev pub Fails : {Y : Type 0} → Stop → Result Y SpliceRefusal → Type 0
Fails (Refusal refusal) due = due ≡ Err refusal
Fails Memory due = ⊤

abbrev pub Gives : {X Y : Type 0} → (X → Y) → Result X Stop → Result Y SpliceRefusal → Type 0
Gives view (Ok x) due = due ≡ Ok (view x)
Gives view (Err stop) due = Fails stop due

-- the same of a step that appends to a text
abbrev pub GivesBehind : List ℕ → List ℕ → Result (Unit {0}) Stop → Result (List ℕ) SpliceRefusal → Type 0
GivesBehind before after (Ok done) due = (text : List ℕ) × (due ≡ Ok text) × (after ≡ before ++ text)
GivesBehind before after (Err stop) due = Fails stop due
