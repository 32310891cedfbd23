-- Half-lives of which brackets are kept.
use Rattle.std.proofs.Common.{◌≡◌, ℕ, map, Bool, Bor, true, false, ◌==◌, ◌||◌, List, [], ◌∷◌, Option, Some, None, is_some, option_copied, refl, sym, ap, ◌∙◌, eqb-true}
use Rattle.std.specs.List.{cons_option, find}
use Rattle.ghg_units.specs.declared.row.Row.{Row}
use Rattle.ghg_data.specs.declared.brackets.Bracket.{Bracket}
use Rattle.ghg_data.specs.HalfLives.{HasAlso, half_life_of, half_lives_of, has}

-- a bracket that is found is kept
found_has : (h : ℕ) (bs : List Bracket) → is_some (find (λ (b : Bracket). b.half_life == h) bs) ≡ true → has (map (λ b. b.half_life) bs) h ≡ true
found_has h [] e = cc
found_has h (b ∷ bs) e = by (b.half_life == h) refl e (found_has h bs)
  where
    by : (t : Bool) → (b.half_life == h) ≡ t → is_some (find (λ (b : Bracket). b.half_life == h) (b ∷ bs)) ≡ true → (is_some (find (λ (b : Bracket). b.half_life == h) bs) ≡ true → has (map (λ b. b.half_life) bs) h ≡ true)
        → (b.half_life == h) || has (map (λ b. b.half_life) bs) h ≡ true
    by true is e rest = rw is refl
    by false is e rest = rw is (rest (rw is at e))

copied_some : {T : Type 0} (o : Option (Bor T)) → is_some (option_copied o) ≡ is_some o
copied_some None = refl
copied_some (Some x) = refl

-- and so where it is lent
pub lent_has : (h : ℕ) (bs : List Bracket) (o : Option (Bor Bracket)) → option_copied o ≡ find (λ (b : Bracket). b.half_life == h) bs → is_some o ≡ true → has (map (λ b. b.half_life) bs) h ≡ true
lent_has h bs o e there = found_has h bs (ap is_some (sym e) ∙ copied_some o ∙ there)

-- one that is kept already is no new one
pub had : (xs : List ℕ) (h : ℕ) → has xs h ≡ true → HasAlso xs xs (h ∷ [])
had xs h there q = by (h == q) refl
  where
    by : (t : Bool) → (h == q) ≡ t → has xs q ≡ has xs q || (t || false)
    by true same = let e : has xs q ≡ true = sym (ap (has xs) (eqb-true h q same)) ∙ there in e ∙ sym (ap (λ b. b || true) e)
    by false other = or_none (has xs q)
      where
        or_none : (b : Bool) → b ≡ b || false
        or_none true = refl
        or_none false = refl

-- those of a row and of the rows behind it
joined : (a : Bool) (o : Option ℕ) (more : List ℕ) (h : ℕ) → (a || has (cons_option o []) h) || has more h ≡ a || has (cons_option o more) h
joined true o more h = refl
joined false None more h = refl
joined false (Some t) more h = by (t == h)
  where
    by : (b : Bool) → (b || false) || has more h ≡ b || has more h
    by true = refl
    by false = refl

-- once a row has its turn
pub named_more : (old mid new : List ℕ) (rows : List Row) (row : Row) (rest left : List Row) → left ≡ row ∷ rest → HasAlso mid new (half_lives_of (row ∷ []))
    → ((h : ℕ) → has mid h || has (half_lives_of left) h ≡ has old h || has (half_lives_of rows) h) → (h : ℕ) → has new h || has (half_lives_of rest) h ≡ has old h || has (half_lives_of rows) h
named_more old mid new rows row rest left e more so_far h =
    ap (λ b. b || has (half_lives_of rest) h) (more h) ∙ joined (has mid h) (half_life_of row.form) (half_lives_of rest) h
    ∙ ap (λ rs. has mid h || has (half_lives_of rs) h) (sym e) ∙ so_far h
