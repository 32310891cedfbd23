-- A pass with every stake knows every claim.
use Rattle.std.proofs.Common.{◌≡◌, ℕ, ◌-◌, min, List, sym, ap, ◌∙◌, arith}
use mathlib.Core.Option.{some, some-injective}
use lib.ListN.{get_elem?}
use Rattle.ghg_cell.specs.declared.view.View.{View}
use Rattle.ghg_cell.specs.BoardRule.{times, once_below, claims_of, stake_of, misses_of, Kept}
use Rattle.atomic_table.specs.Table.{Final, Seen}
use Rattle.ghg_cell.specs.Boards.{IsBoard}
use Rattle.ghg_cell.proofs.Views.{sum_alone}

module _ (places word : ℕ) (views : List View) (i : ℕ) (v : View) (k : Kept places word views) (at : get_elem? views i ≡ some v) (whole : v.stake ≡ 64) where
  pub every_place : (x : ℕ) → times x v.claimed ≡ once_below x (min word places)
  every_place x = sym (sum_alone (claims_of x) stake_of views i v at (k.stakes ∙ sym whole) (λ j u there none. ap (times x) ((k.sound j u there).2 none))) ∙ k.once x

  pub every_miss : v.misses ≡ word - places
  every_miss = sym (sum_alone misses_of stake_of views i v at (k.stakes ∙ sym whole) (λ j u there none. let b = (k.sound j u there).1 in omega arith)) ∙ k.missed

-- what the closed table's word is to such a pass
pub closes : {S : Type 0} (places id : ℕ) (v : View) (words : List ℕ) (slots : List S) (n : ℕ) → Final (Seen (IsBoard {S = S} places) id v) words slots
    → get_elem? words 0 ≡ some n → v.stake ≡ 64 → ((x : ℕ) → times x v.claimed ≡ once_below x (min n places)) × (v.misses ≡ n - places)
closes places id v words slots n (s, seen, words_are, counts, values) first whole =
    let b = seen.0 in
    let is : b.word ≡ n = some-injective b.word n (sym (ap (λ (ws : List ℕ). get_elem? ws 0) (sym words_are ∙ b.one)) ∙ first) in (
      (λ x. every_place places b.word s.views id v b.kept seen.1 whole x ∙ ap (λ (w : ℕ). once_below x (min w places)) is),
      every_miss places b.word s.views id v b.kept seen.1 whole ∙ ap (λ (w : ℕ). w - places) is,
    )
