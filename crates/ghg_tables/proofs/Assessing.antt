-- What an assessment gives are the rows of its pairs, and their numbers are within limits.
use Rattle.std.proofs.Common.{◌≡◌, ◌≢◌, inl, inr, ℕ, zero, suc, ◌+◌, ◌*◌, ◌<◌, ◌≤◌, Bool, true, false, cond, if◌then◌else◌, List, [], ◌∷◌, ◌++◌, length, get_or, map, flat_map, Contains, refl, sym, ap, ap₂, subst, ◌∙◌, arith, pos, unsigned_abs}
use Rattle.std.proofs.lemmas.Bool.{eq-eqb, ne_eqb}
use Rattle.std.specs.List.{All, sum_by}
use Rattle.std.specs.Ordering.{is_lt}
use Rattle.std.proofs.lemmas.Cmp.{tied_itself}
use Rattle.std.proofs.lemmas.List.{length-map}
use Rattle.std.proofs.Math.ListN.{get_or-map}
use Rattle.std.proofs.lemmas.List.Elements.{All-get_or, All-head, All-tail, Contains-get_or}
use Rattle.std.proofs.lemmas.List.Folds.{flat_map-map}
use Rattle.std.proofs.lemmas.List.Sorted.{Contains-permutation, IsPermutation-sym}
use Rattle.std.proofs.lemmas.List.Sums.{sum_by-cons}
use Rattle.ghg_uncertainty.proofs.Rounded.{some_magnitude}
use Rattle.ghg_definitions.specs.Listed.{IsListed}
use Rattle.ghg_definitions.proofs.Listed.{listed}
use Rattle.ghg_keycat.specs.declared.KeyRow.{KeyRow}
use Rattle.ghg_keycat.specs.declared.Pair.{Pair}
use Rattle.ghg_keycat.specs.Ranking.{AreDistinct, IsKeyRow, IsRanking, before, in_order, ranks_before}
use Rattle.ghg_keycat.specs.Sizes.{base_size, base_sum, gross, gross_limit, level_size}
use Rattle.ghg_keycat.proofs.InOrder.{by_rank_total, ranked_in_order}
use Rattle.ghg_keycat.proofs.Small.{small}
use Rattle.ghg_tables.specs.Analyses.{level_row, level_rows, ranked_text, shares_text, trend_denominator, trend_of, trend_row, trend_rows, untrended_row}
use Rattle.ghg_tables.specs.Assessed.{IsBounded, level_key_row, trend_key_row}

-- ---- what stands before a pair, and the pair

before_within : (size : Pair → ℕ) (rows : List Pair) (p : Pair) → before size rows p ≤ sum_by size rows
before_within size [] p = omega arith
before_within size (x ∷ rows) p = omega (arith, sum_by-cons (λ y. cond (ranks_before size y p) (size y) 0) x rows, sum_by-cons size x rows, before_within size rows p, by (ranks_before size x p))
  where
    by : (b : Bool) → cond b (size x) 0 ≤ size x
    by true = omega arith
    by false = omega arith

not_before_itself : (size : Pair → ℕ) (p x : Pair) → p ≡ x → ranks_before size x p ≡ false
not_before_itself size p x e = subst (λ y. ranks_before size y p ≡ false) e (ap is_lt (tied_itself (by_rank_total size) p))

own_too : (size : Pair → ℕ) (rows : List Pair) (p : Pair) → IsListed p rows → before size rows p + size p ≤ sum_by size rows
own_too size [] p h = absurd h
own_too size (x ∷ rows) p (inl e) =
    omega (
      arith,
      sum_by-cons (λ y. cond (ranks_before size y p) (size y) 0) x rows,
      sum_by-cons size x rows,
      before_within size rows p,
      ap (λ b. cond b (size x) 0) (not_before_itself size p x e),
      ap size e,
    )
own_too size (x ∷ rows) p (inr h) = omega (arith, sum_by-cons (λ y. cond (ranks_before size y p) (size y) 0) x rows, sum_by-cons size x rows, own_too size rows p h, by (ranks_before size x p))
  where
    by : (b : Bool) → cond b (size x) 0 ≤ size x
    by true = omega arith
    by false = omega arith

pub ranking_bounded : (size : Pair → ℕ) (rows : List Pair) (keys : List KeyRow) → IsRanking size rows keys → sum_by size rows ≤ 3 * gross_limit * gross_limit → All IsBounded keys
ranking_bounded size rows keys ranking within k d h =
    let key : KeyRow = get_or keys k d in
    let is : IsKeyRow size rows key = All-get_or (IsKeyRow size rows) keys k d h ranking.each in
    let pairs : List Pair = map (λ (r : KeyRow). r.pair) keys in
    let there : k < length pairs = rw (length-map keys (λ (r : KeyRow). r.pair)) h in
    let among : Contains pairs key.pair = subst (Contains pairs) (get_or-map (λ (r : KeyRow). r.pair) keys k d) (Contains-get_or pairs k d.pair there) in
    let pair : IsListed key.pair rows = listed rows key.pair (Contains-permutation pairs rows key.pair (IsPermutation-sym rows pairs ranking.pairs) among) in
    let whole = own_too size rows key.pair pair in
    record {
      whole = omega (arith, whole, is.size_is, is.before_is, is.total_is);
      small = omega (arith, is.total_is, within);
      key_is = is.key_is;
    }

-- ---- rows

same_texts : {X : Type 0} (f g : X → List ℕ) (xs : List X) → All (λ x. f x ≡ g x) xs → flat_map f xs ≡ flat_map g xs
same_texts f g [] all = refl
same_texts f g (x ∷ xs) all = ap₂ (λ (a b : List ℕ). a ++ b) (All-head (λ y. f y ≡ g y) x xs all) (same_texts f g xs (All-tail (λ y. f y ≡ g y) x xs all))

shares_are : (size : Pair → ℕ) (rows : List Pair) (key : KeyRow) → IsKeyRow size rows key → shares_text key.total key.size key.before ≡ ranked_text size rows key.pair
unfolding ranked_text
shares_are size rows key is = rw (is.total_is, is.size_is, is.before_is) refl

ranked_rows : (size : Pair → ℕ) (rows : List Pair) (keys : List KeyRow) (of_key : KeyRow → List ℕ) (of_pair : Pair → List ℕ) → AreDistinct rows → IsRanking size rows keys →
    ((key : KeyRow) → IsKeyRow size rows key → of_key key ≡ of_pair key.pair) → flat_map of_key keys ≡ flat_map of_pair (in_order size rows)
ranked_rows size rows keys of_key of_pair distinct ranking each =
    same_texts of_key (λ key. of_pair key.pair) keys (λ k d h. each (get_or keys k d) (All-get_or (IsKeyRow size rows) keys k d h ranking.each))
    ∙ sym (flat_map-map of_pair (λ (r : KeyRow). r.pair) keys)
    ∙ ap (flat_map of_pair) (ranked_in_order size rows keys distinct ranking)

-- ---- the level assessment

pub levels_are : (rows : List Pair) (keys : List KeyRow) → AreDistinct rows → IsRanking level_size rows keys → flat_map level_key_row keys ≡ level_rows rows
unfolding level_rows level_key_row level_row
levels_are rows keys distinct ranking = ranked_rows level_size rows keys level_key_row (level_row rows) distinct ranking row
  where
    row : (key : KeyRow) → IsKeyRow level_size rows key → level_key_row key ≡ level_row rows key.pair
    row key is = rw (shares_are level_size rows key is) refl

pub levels_bounded : (rows : List Pair) (keys : List KeyRow) → sum_by gross rows ≤ gross_limit → IsRanking level_size rows keys → All IsBounded keys
levels_bounded rows keys within ranking = ranking_bounded level_size rows keys ranking (let limit = (small rows within).levels in omega (arith, limit))

-- ---- the trend assessment

pub trends_are : (rows : List Pair) (keys : List KeyRow) (denominator : ℕ) → AreDistinct rows → base_sum rows ≢ pos 0 → IsRanking (trend_of rows) rows keys → denominator ≡ trend_denominator rows → flat_map (trend_key_row denominator) keys ≡ trend_rows rows
unfolding trend_rows trend_key_row trend_row
trends_are rows keys denominator distinct some ranking is =
    ranked_rows (trend_of rows) rows keys (trend_key_row denominator) (trend_row rows) distinct ranking row
    ∙ sym (ap (λ b. if b then flat_map untrended_row rows else flat_map (trend_row rows) (in_order (trend_of rows) rows)) (ne_eqb (unsigned_abs (base_sum rows)) 0 (λ e. omega (arith, some_magnitude (base_sum rows) some, e))))
  where
    row : (key : KeyRow) → IsKeyRow (trend_of rows) rows key → trend_key_row denominator key ≡ trend_row rows key.pair
    row key each = rw (shares_are (trend_of rows) rows key each, each.size_is, is) refl

pub untrended_are : (rows : List Pair) → base_sum rows ≡ pos 0 → flat_map untrended_row rows ≡ trend_rows rows
unfolding trend_rows
untrended_are rows none = sym (ap (λ b. if b then flat_map untrended_row rows else flat_map (trend_row rows) (in_order (trend_of rows) rows)) (eq-eqb (unsigned_abs (base_sum rows)) 0 (ap unsigned_abs none)))

pub trends_bounded : (rows : List Pair) (keys : List KeyRow) → sum_by gross rows ≤ gross_limit → IsRanking (trend_of rows) rows keys → All IsBounded keys
trends_bounded rows keys within ranking = ranking_bounded (trend_of rows) rows keys ranking (small rows within).trends

positive_product : (a b : ℕ) → 0 < a → 0 < b → 1 ≤ a * b
positive_product zero b h k = absurd (omega (arith, h))
positive_product (suc a) zero h k = absurd (omega (arith, k))
positive_product (suc a) (suc b) h k = omega arith

pub some_denominator : (rows : List Pair) → sum_by gross rows ≤ gross_limit → base_sum rows ≢ pos 0 → 1 ≤ trend_denominator rows
some_denominator rows within some =
    let net : 0 < unsigned_abs (base_sum rows) = some_magnitude (base_sum rows) some in
    let size : 0 < base_size rows = let most = (small rows within).base_net in omega (arith, net, most) in
    positive_product (base_size rows) (unsigned_abs (base_sum rows)) size net
