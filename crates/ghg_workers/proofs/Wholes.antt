-- The lists of two workers, one after the other.
use Rattle.std.proofs.Common.{◌≡◌, ℕ, ◌+◌, List, ◌++◌, Result, Ok, Err, IfOk, IsOkAnd, Vec, Global, sym, ap, ◌∙◌, subst, arith}
use Rattle.std.proofs.lemmas.List.Elements.{All-append}
use Rattle.std.proofs.lemmas.List.{map-append}
use Rattle.ghg_cell.specs.Boards.{PassView}
use Rattle.ghg_workers.specs.declared.entry.Entry.{Entry}
use Rattle.ghg_workers.specs.Entries.{place_of, places_of, IsOf, IsWhole}

module _ {O : Type 0} (outcome : ℕ → O → Type 0) (count : ℕ) where
  pub whole_append : (xs ys : List (Entry O)) (p q w : PassView) → IsWhole outcome count xs p → IsWhole outcome count ys q
      → w.claimed ≡ p.claimed ++ q.claimed → w.misses ≡ p.misses + q.misses → IsWhole outcome count (xs ++ ys) w
  whole_append xs ys p q w a b claimed misses = (
    map-append place_of xs ys ∙ (ap (λ (l : List ℕ). l ++ places_of ys) a.0 ∙ (ap (λ (l : List ℕ). p.claimed ++ l) b.0 ∙ sym claimed)),
    All-append (IsOf outcome count) xs ys a.1 b.1,
    omega arith,
  )

  pub whole_both : {E : Type 0} (all mine theirs : Result (Vec (Entry O) Global) E) (p q w : PassView)
      → IfOk all (λ v. IsOkAnd mine (λ a. IsOkAnd theirs (λ b. v.items ≡ a.items ++ b.items)))
      → IfOk mine (λ v. IsWhole outcome count v.items p) → IfOk theirs (λ v. IsWhole outcome count v.items q)
      → w.claimed ≡ p.claimed ++ q.claimed → w.misses ≡ p.misses + q.misses → IfOk all (λ v. IsWhole outcome count v.items w)
  whole_both (Err e) mine theirs p q w put a b claimed misses = tt
  whole_both (Ok v) (Err e) theirs p q w put a b claimed misses = absurd put
  whole_both (Ok v) (Ok x) (Err e) p q w put a b claimed misses = absurd put
  whole_both (Ok v) (Ok x) (Ok y) p q w put a b claimed misses =
      subst (λ (l : List (Entry O)). IsWhole outcome count l w) (sym put) (whole_append x.items y.items p q w a b claimed misses)
