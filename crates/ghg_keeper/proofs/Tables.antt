-- How a name finds its table.
use Rattle.std.proofs.Common.{◌≡◌, inl, inr, ℕ, suc, ◌+◌, List, [], ◌∷◌, Bool, true, false, Some, find, slice_get, refl, sym, ap, subst, ◌∙◌, arith}
use Rattle.std.specs.List.{position_from}
use Rattle.std.proofs.lemmas.Bool.{cases_Bool}
use Rattle.std.proofs.lemmas.Option.{same_Some}
use Rattle.sqlite_rules.specs.Lists.{Has}
use Rattle.sqlite.specs.Table.{Table}
use Rattle.sqlite.specs.Schema.{Schema}
use Rattle.sqlite.specs.Effect.{Database}
use Rattle.sqlite_schema.specs.Names.{same_name, table_named}
use Rattle.ghg_keeper.specs.Accepted.{HasTable, accepted, second}
use Rattle.ghg_keeper.specs.Listed.{rows_in, rows_of}

module _ {X : Type 0} (p : X → Bool) where
  pub found_in : (xs : List X) (x : X) → find p xs ≡ Some x → Has xs x × (p x ≡ true)
  found_in [] x h = absurd (cc)
  found_in (y ∷ xs) x h = elim (cases_Bool (p y)) [
    | inl here ↦ let same : y ≡ x = same_Some _ _ (rw here at h) in (inl (sym same), subst (λ z. p z ≡ true) same here)
    | inr past ↦ let later = found_in xs x (rw past at h) in (inr later.0, later.1)
  ]

  placed_from : (xs : List X) (x : X) (i : ℕ) → find p xs ≡ Some x → (k : ℕ) × (j : ℕ) × (position_from p i xs ≡ Some j) × (j ≡ i + k) × (slice_get xs k ≡ Some x)
  placed_from [] x i h = absurd (cc)
  placed_from (y ∷ xs) x i h = elim (cases_Bool (p y)) [
    | inl here ↦ (0, i, rw here refl, omega arith, rw here at h)
    | inr past ↦ let later = placed_from xs x (i + 1) (rw past at h) in (suc later.0, later.1, rw past later.2, omega (arith, later.3), later.4)
  ]

  pub placed : (xs : List X) (x : X) → find p xs ≡ Some x → (k : ℕ) × (position_from p 0 xs ≡ Some k) × (slice_get xs k ≡ Some x)
  placed xs x h =
      let it = placed_from xs x 0 h in
      let same : it.1 ≡ it.0 = omega (arith, it.3) in
      (it.0, it.2 ∙ ap (λ j. Some j) same, it.4)

-- where a table stands
pub record Place (name : List ℕ) (schema : Schema) (table : Table) : Type 0 where
  pub at : ℕ
  pub named : table_named schema name ≡ Some at
  pub there : slice_get schema.tables at ≡ Some table

pub place : (made : Table) (schema : Schema) (t : HasTable made schema) → Place made.name schema (record made { tree = t.tree })
place made schema t = let it = placed (λ s. same_name s.name made.name) schema.tables _ t.found in record { at = it.0; named = it.1; there = it.2 }

pub rows_there : (made : Table) (db : Database) (t : HasTable made db.schema) → rows_of made.name db ≡ db.trees t.tree
rows_there made db t = ap (rows_in db.trees) t.found

pub apart_names : (same_name accepted.name second.name ≡ false) × (same_name second.name accepted.name ≡ false)
unfolding same_name
apart_names = (refl, refl)
