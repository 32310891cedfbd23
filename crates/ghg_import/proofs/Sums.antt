-- The names of a sum.
use Rattle.std.proofs.Common.{sym, ap, subst, ◌≡◌, ◌≤◌, ◌<◌, ◌∙◌, ◌+◌, ◌==◌, ℕ, suc, List, [], ◌∷◌, length, take, Option, Some, None, Bool, true, false, not, ◌&&◌, refl, arith, is_some, nat_eq, nat_le, if◌then◌else◌, take_all, length-take, min}
use Rattle.std.specs.List.{AllByRecursion, list_all, list_any}
use Rattle.std.specs.Option.{option_map}
use Rattle.std.specs.Ordering.{eq_by_cmp, nat_cmp}
use Rattle.std.specs.Set.{distinct_count}
use Rattle.std.specs.Cmp.Lexicographic.{pointwise, slice_cmp, texts_ties}
use Rattle.std.proofs.lemmas.Bool.{leb-true, le-leb, lt-leb}
use Rattle.std.proofs.lemmas.List.Splits.{length-slice_split}
use Rattle.std.proofs.lemmas.Map.Made.{distinct_count-le}
use Rattle.ghg_units.specs.Name.{plain_name_in}
use Rattle.ghg_units.specs.WellFormed.{IsPlainName, IsSum, are_different, is_among}
use Rattle.ghg_units.specs.declared.names.TheConstants.{MOST_NAMES}
use Rattle.ghg_import.specs.Forms.{is_sum, names_in, parts_of}

-- ---- names that stand once

same_any : {X : Type 0} (p q : X → Bool) → ((x : X) → p x ≡ q x) → (xs : List X) → list_any p xs ≡ list_any q xs
same_any p q same [] = refl
same_any p q same (x ∷ xs) = rw (same x, same_any p q same xs) refl

fewer : (n m : ℕ) → n ≤ m → (n == suc m) ≡ false
fewer n m small = grind (arith, small)

one_more : (n m : ℕ) → (suc n == suc m) ≡ (n == m)
one_more n m = grind arith

-- the names differ just where a set of them has as many
pub counted_once : (names : List (List ℕ)) → (distinct_count (eq_by_cmp (slice_cmp nat_cmp)) names == length names) ≡ are_different names
counted_once [] = refl
counted_once (name ∷ names) = by (is_among name names) (same_any (pointwise nat_eq name) (eq_by_cmp (slice_cmp nat_cmp) name) (texts_ties name) names) (counted_once names)
  where
    by : (b : Bool) → b ≡ list_any (eq_by_cmp (slice_cmp nat_cmp) name) names → (distinct_count (eq_by_cmp (slice_cmp nat_cmp)) names == length names) ≡ are_different names → (distinct_count (eq_by_cmp (slice_cmp nat_cmp)) (name ∷ names) == suc (length names)) ≡ (not b && are_different names)
    by true e rest = rw (← e) (fewer _ _ (distinct_count-le _ names))
    by false e rest = rw (← e) (one_more _ _ ∙ rest)

-- ---- what makes a sum, and what makes none

long : (a b c d : Bool) → b ≡ false → a && b && c && d ≡ false
long true false c d e = refl
long false false c d e = refl
long a true c d e = absurd (cc)

strange : (a b c d : Bool) → c ≡ false → a && b && c && d ≡ false
strange true true false d e = refl
strange true false false d e = refl
strange false true false d e = refl
strange false false false d e = refl
strange a b true d e = absurd (cc)

repeated : (a b c d : Bool) → d ≡ false → a && b && c && d ≡ false
repeated true true true false e = refl
repeated true true false false e = refl
repeated true false c false e = refl
repeated false b c false e = refl
repeated a b c true e = absurd (cc)

all_four : (a b c d : Bool) → a && b && c && d ≡ true → (a ≡ true) × (b ≡ true) × (c ≡ true) × (d ≡ true)
all_four true true true true e = (refl, refl, refl, refl)
all_four true true true false e = absurd (cc)
all_four true true false d e = absurd (cc)
all_four true false c d e = absurd (cc)
all_four false b c d e = absurd (cc)

-- of more texts than a sum may have one too many is looked at
more_left : (n m : ℕ) → n ≡ min (MOST_NAMES + 1) m → MOST_NAMES < n → nat_le m MOST_NAMES ≡ false
more_left n m e many = lt-leb m MOST_NAMES (omega (arith, e, many))

all_left : (n m : ℕ) → n ≡ min (MOST_NAMES + 1) m → n ≤ MOST_NAMES → m ≤ (MOST_NAMES + 1)
all_left n m e few = omega (arith, e, few)

pub too_many : (xs ps : List (List ℕ)) → ps ≡ take (MOST_NAMES + 1) xs → MOST_NAMES < length ps → is_sum xs ≡ false
too_many xs ps first many = long (nat_le 1 (length xs)) _ (list_all (λ name. is_some (plain_name_in name)) xs) (are_different xs) (more_left (length ps) (length xs) (ap length first ∙ length-take (MOST_NAMES + 1) xs) many)

-- and of others all
pub all_parts : (xs ps : List (List ℕ)) → ps ≡ take (MOST_NAMES + 1) xs → length ps ≤ MOST_NAMES → ps ≡ xs
all_parts xs ps first few = first ∙ take_all (MOST_NAMES + 1) xs (all_left (length ps) (length xs) (ap length first ∙ length-take (MOST_NAMES + 1) xs) few)

pub strange_name : (xs : List (List ℕ)) → list_all (λ name. is_some (plain_name_in name)) xs ≡ false → is_sum xs ≡ false
strange_name xs e = strange (nat_le 1 (length xs)) (nat_le (length xs) MOST_NAMES) _ (are_different xs) e

pub repeated_name : (xs : List (List ℕ)) → are_different xs ≡ false → is_sum xs ≡ false
repeated_name xs e = repeated (nat_le 1 (length xs)) (nat_le (length xs) MOST_NAMES) (list_all (λ name. is_some (plain_name_in name)) xs) _ e

pub sum_of : (text : List ℕ) → length (parts_of text) ≤ MOST_NAMES → list_all (λ name. is_some (plain_name_in name)) (parts_of text) ≡ true → are_different (parts_of text) ≡ true → is_sum (parts_of text) ≡ true
sum_of text few plain different = rw (le-leb _ _ one, le-leb _ _ few, plain, different) refl
  where
    one : 1 ≤ length (parts_of text)
    one = rw (length-slice_split (λ b. b == 32) text) (omega arith)

-- a text that is a plain name is its own
own_name : (b c : Bool) (text : List ℕ) → is_some (if b then None else (if c then Some text else None)) ≡ true → (if b then None else (if c then Some text else None)) ≡ Some text
own_name true c text e = absurd (cc)
own_name false true text e = refl
own_name false false text e = absurd (cc)

all_plain : (names : List (List ℕ)) → list_all (λ name. is_some (plain_name_in name)) names ≡ true → AllByRecursion IsPlainName names
all_plain [] e = tt
all_plain (name ∷ names) e = (own_name _ _ name (both.0), all_plain names both.1)
  where
    first_and : (a b : Bool) → a && b ≡ true → (a ≡ true) × (b ≡ true)
    first_and true true e = (refl, refl)
    first_and true false e = absurd (cc)
    first_and false b e = absurd (cc)

    both : (is_some (plain_name_in name) ≡ true) × (list_all (λ name. is_some (plain_name_in name)) names ≡ true)
    both = first_and _ _ e

-- what passes the test is a sum
pub sum_formed : (names : List (List ℕ)) → is_sum names ≡ true → IsSum names
sum_formed names e = let all = all_four (nat_le 1 (length names)) (nat_le (length names) MOST_NAMES) (list_all (λ name. is_some (plain_name_in name)) names) (are_different names) e in (leb-true _ _ all.0, leb-true _ _ all.1, all_plain names all.2, all.3)

-- ---- what is read

pub no_names : (text : List ℕ) → is_sum (parts_of text) ≡ false → None ≡ names_in text
unfolding names_in
no_names text e = rw e refl

pub these_names : (text : List ℕ) → is_sum (parts_of text) ≡ true → Some (parts_of text) ≡ names_in text
unfolding names_in
these_names text e = rw e refl

-- names that were read, or none
pub none_named : {A : Type 0} (f : A → List (List ℕ)) (b : Bool) (ps : List (List ℕ)) (o : Option A) → option_map f o ≡ (if b then Some ps else None) → o ≡ None → b ≡ false
none_named f true ps None e is = absurd (cc)
none_named f false ps None e is = refl
none_named f b ps (Some x) e is = absurd (cc)

pub some_named : {A : Type 0} (f : A → List (List ℕ)) (b : Bool) (ps : List (List ℕ)) (o : Option A) (x : A) → option_map f o ≡ (if b then Some ps else None) → o ≡ Some x → (b ≡ true) × (f x ≡ ps)
some_named f b ps None x e is = absurd (cc)
some_named f true ps (Some y) x e is = let same : y ≡ x = cc in (refl, ap f (sym same) ∙ (cc))
some_named f false ps (Some y) x e is = absurd (cc)

-- few texts, each a plain name and none of them twice, are the names that the text says
pub named : (text : List ℕ) (ps names : List (List ℕ)) → ps ≡ parts_of text → length ps ≤ MOST_NAMES → list_all (λ name. is_some (plain_name_in name)) ps ≡ true → names ≡ ps → are_different names ≡ true → Some names ≡ names_in text
named text ps names whole few plain same different =
    let all : names ≡ parts_of text = same ∙ whole in
    ap Some all
    ∙ these_names text (sum_of text (subst (λ (xs : List (List ℕ)). length xs ≤ MOST_NAMES) whole few) (ap (list_all (λ name. is_some (plain_name_in name))) (sym whole) ∙ plain) (ap are_different (sym all) ∙ different))
