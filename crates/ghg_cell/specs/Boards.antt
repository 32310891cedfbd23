-- The rule as the table keeps it, and what a contract sees of a board and of a pass.
use Rattle.std.specs.Prelude.{◌≡◌, ℕ, ◌≤◌, cond, ltb, List, [], ◌∷◌, length, refl}
use Rattle.std.specs.Coded.{Coded, code_by, coded×, coded_ℕ, coded_list}
use Rattle.atomic_table.specs.Table.{State, Me}
use Rattle.atomic_table.specs.Seated.{TableId, table_id_coded}
use Rattle.ghg_cell.specs.declared.view.View.{View}
use Rattle.ghg_cell.specs.BoardRule.{with_place, with_miss, Kept}

module _ {S : Type 0} where
  pub record IsBoard (places : ℕ) (s : State S View) : Type 0 where
    pub word : ℕ
    pub one : s.words ≡ word ∷ []
    pub kept : Kept places word s.views

  -- what a claim tells: the number found is the place, or there was none
  abbrev pub Claims : Me S View → ℕ → Me S View → Type 0
  Claims before found after =
      (after.1 ≡ before.1)
      × (after.0 ≡ cond (ltb found before.0.places) (with_place before.0 found) (with_miss before.0))
      × (length before.0.claimed ≤ found)

-- which board it is, and how many places it has
pub record BoardId : Type 0 where
  pub table : TableId
  pub places : ℕ

-- what a pass knows: its board, the places that it claimed, in order, its stake, and how often it found none
pub record PassView : Type 0 where
  pub board : BoardId
  pub claimed : List ℕ
  pub stake : ℕ
  pub misses : ℕ

-- a pass of the board that claimed nothing yet
abbrev pub IsNew : BoardId → ℕ → PassView → Type 0
IsNew board stake pass =
    (pass.board ≡ board) × (pass.claimed ≡ []) × (pass.stake ≡ stake) × (pass.misses ≡ 0)

abbrev pub board_id_coded : Coded BoardId
board_id_coded =
    code_by (TableId × ℕ) (coded× table_id_coded coded_ℕ)
    (λ b. (b.table, b.places))
    (λ p. record { table = p.0; places = p.1 }) (λ _. refl)

abbrev pub pass_view_coded : Coded PassView
pass_view_coded =
    code_by (BoardId × (List ℕ × (ℕ × ℕ)))
    (coded× board_id_coded (coded× (coded_list coded_ℕ) (coded× coded_ℕ coded_ℕ)))
    (λ p. (p.board, (p.claimed, (p.stake, p.misses))))
    (λ t. record { board = t.0; claimed = t.1.0; stake = t.1.1.0; misses = t.1.1.1 }) (λ _. refl)

abbrev pub pass_view : TableId → View → PassView
pass_view table v = record {
  board = record { table = table; places = v.places };
  claimed = v.claimed;
  stake = v.stake;
  misses = v.misses;
}
