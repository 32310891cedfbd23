-- The order of texts by their bytes: as numbers, in parts, and with zeros behind the texts.
use Rattle.std.proofs.Common.{◌≡◌, ◌+◌, ◌*◌, ◌<◌, ◌≤◌, ℕ, true, false, All, zero, suc, List, [], ◌∷◌, get_or, length, length-drop, length-take-le, take, drop, replicate, refl, sym, ap, ◌∙◌, arith, Ordering}
use Rattle.std.proofs.Math.Seq.{drop-cons}
use Rattle.std.proofs.lemmas.Bool.{false≢true}
use Rattle.std.proofs.lemmas.List.{drop-drop}
use Rattle.std.proofs.lemmas.List.Elements.{All-drop, All-take}
use Rattle.std.proofs.lemmas.Cmp.{tied_itself, nat_list_cmp_total}
use Rattle.std.specs.declared.cmp.Ordering.TheVariants.{Less, Equal, Greater}
use Rattle.std.specs.Ordering.{is_ne, nat_cmp, ordering_then, MatchOrdering}
use Rattle.std.specs.Cmp.{nat_cmp_is, ranks}
use Rattle.std.specs.Cmp.Lexicographic.{slice_cmp}
use Rattle.std.specs.Slice.Scan.{big_endian}

-- ---- as numbers

abbrev pub IsByte : ℕ → Type 0
IsByte b = b < 256

behind : (x : ℕ) (xs : List ℕ) → All IsByte (x ∷ xs) → All IsByte xs
behind x xs bytes = λ k d inside. bytes (suc k) d (omega arith)

-- a smaller number stays smaller, whatever bytes follow
rises : (a b : ℕ) (xs ys : List ℕ) → length xs ≡ length ys → All IsByte xs → a < b → big_endian a xs < big_endian b ys
rises a b [] [] e bytes less = less
rises a b [] (y ∷ ys) e bytes less = absurd (omega arith)
rises a b (x ∷ xs) [] e bytes less = absurd (omega arith)
rises a b (x ∷ xs) (y ∷ ys) e bytes less =
    let small : x < 256 = bytes 0 0 (omega arith) in
    rises (a * 256 + x) (b * 256 + y) xs ys (omega arith) (behind x xs bytes) (omega arith)

-- lists of bytes of one length are ordered as the numbers that they make behind the same number
numbers_order : (a : ℕ) (xs ys : List ℕ) → length xs ≡ length ys → All IsByte xs → All IsByte ys →
    slice_cmp nat_cmp xs ys ≡ nat_cmp (big_endian a xs) (big_endian a ys)
numbers_order a [] [] e left right = nat_cmp_is a a Equal refl
numbers_order a [] (y ∷ ys) e left right = absurd (omega arith)
numbers_order a (x ∷ xs) [] e left right = absurd (omega arith)
numbers_order a (x ∷ xs) (y ∷ ys) e left right =
    by (numbers_order (a * 256 + x) xs ys (omega arith) (behind x xs left) (behind y ys right)) (nat_cmp x y) (ranks x y)
  where
    by : slice_cmp nat_cmp xs ys ≡ nat_cmp (big_endian (a * 256 + x) xs) (big_endian (a * 256 + x) ys) →
        (o : Ordering) → MatchOrdering o (x < y) (x ≡ y) (y < x) →
        ordering_then o (slice_cmp nat_cmp xs ys) ≡ nat_cmp (big_endian (a * 256 + x) xs) (big_endian (a * 256 + y) ys)
    by next Less less =
        let under : x < y = less in
        nat_cmp_is _ _ Less (rises (a * 256 + x) (a * 256 + y) xs ys (omega arith) (behind x xs left) (omega arith))
    by next Greater greater =
        let over : y < x = greater in
        nat_cmp_is _ _ Greater (rises (a * 256 + y) (a * 256 + x) ys xs (omega arith) (behind y ys right) (omega arith))
    by next Equal same =
        let level : x ≡ y = same in
        next ∙ ap (λ z. nat_cmp (big_endian (a * 256 + x) xs) (big_endian (a * 256 + z) ys)) level

-- so are n bytes of two lists from one place on
pub part_order : (i n : ℕ) (xs ys : List ℕ) → i + n ≤ length xs → i + n ≤ length ys → All IsByte xs → All IsByte ys →
    slice_cmp nat_cmp (take n (drop i xs)) (take n (drop i ys))
    ≡ nat_cmp (big_endian 0 (take n (drop i xs))) (big_endian 0 (take n (drop i ys)))
part_order i n xs ys p q left right =
    numbers_order 0 (take n (drop i xs)) (take n (drop i ys)) (part_length xs p ∙ sym (part_length ys q)) (part xs left) (part ys right)
  where
    part_length : (zs : List ℕ) → i + n ≤ length zs → length (take n (drop i zs)) ≡ n
    part_length zs inside = length-take-le n (drop i zs) (omega (arith, length-drop i zs))

    part : (zs : List ℕ) → All IsByte zs → All IsByte (take n (drop i zs))
    part zs bytes = All-take IsByte n (drop i zs) (All-drop IsByte i zs bytes)

-- ---- in parts

then_assoc : (o p q : Ordering) → ordering_then o (ordering_then p q) ≡ ordering_then (ordering_then o p) q
then_assoc Less p q = refl
then_assoc Equal p q = refl
then_assoc Greater p q = refl

-- the first n bytes decide, and else those behind them
parts_order : (n : ℕ) (xs ys : List ℕ) → n ≤ length xs → n ≤ length ys →
    slice_cmp nat_cmp xs ys
    ≡ ordering_then (slice_cmp nat_cmp (take n xs) (take n ys)) (slice_cmp nat_cmp (drop n xs) (drop n ys))
parts_order zero xs ys p q = refl
parts_order (suc n) [] ys p q = absurd (omega arith)
parts_order (suc n) (x ∷ xs) [] p q = absurd (omega arith)
parts_order (suc n) (x ∷ xs) (y ∷ ys) p q =
    ap (ordering_then (nat_cmp x y)) (parts_order n xs ys (omega arith) (omega arith)) ∙ then_assoc (nat_cmp x y) _ _

-- the same of what stands from place i on
from_there : (i n : ℕ) (xs ys : List ℕ) → i + n ≤ length xs → i + n ≤ length ys →
    slice_cmp nat_cmp (drop i xs) (drop i ys)
    ≡ ordering_then (slice_cmp nat_cmp (take n (drop i xs)) (take n (drop i ys))) (slice_cmp nat_cmp (drop (i + n) xs) (drop (i + n) ys))
from_there i n xs ys p q =
    let left : n ≤ length (drop i xs) = omega (arith, length-drop i xs) in
    let right : n ≤ length (drop i ys) = omega (arith, length-drop i ys) in
    rw (← drop-drop n i xs, ← drop-drop n i ys) (parts_order n (drop i xs) (drop i ys) left right)

-- n bytes from place i on that differ decide
pub settled : (i n : ℕ) (xs ys : List ℕ) (o : Ordering) → i + n ≤ length xs → i + n ≤ length ys →
    o ≡ slice_cmp nat_cmp (take n (drop i xs)) (take n (drop i ys)) → is_ne o ≡ true →
    o ≡ slice_cmp nat_cmp (drop i xs) (drop i ys)
settled i n xs ys o p q is differ = rw (from_there i n xs ys p q, ← is) (by o differ (slice_cmp nat_cmp (drop (i + n) xs) (drop (i + n) ys)))
  where
    by : (o : Ordering) → is_ne o ≡ true → (r : Ordering) → o ≡ ordering_then o r
    by Less e r = refl
    by Equal e r = absurd (false≢true e)
    by Greater e r = refl

-- n bytes from place i on that do not differ are passed
pub passed : (i n : ℕ) (xs ys : List ℕ) (o : Ordering) → i + n ≤ length xs → i + n ≤ length ys →
    o ≡ slice_cmp nat_cmp (take n (drop i xs)) (take n (drop i ys)) → is_ne o ≡ false →
    slice_cmp nat_cmp (drop i xs) (drop i ys) ≡ slice_cmp nat_cmp (drop (i + n) xs) (drop (i + n) ys)
passed i n xs ys o p q is same = rw (from_there i n xs ys p q, ← is) (by o same (slice_cmp nat_cmp (drop (i + n) xs) (drop (i + n) ys)))
  where
    by : (o : Ordering) → is_ne o ≡ false → (r : Ordering) → ordering_then o r ≡ r
    by Less e r = absurd (false≢true (sym e))
    by Equal e r = refl
    by Greater e r = absurd (false≢true (sym e))

-- the order of one byte
pub one_byte : (i : ℕ) (xs ys : List ℕ) → i < length xs → i < length ys →
    nat_cmp (get_or xs i 0) (get_or ys i 0) ≡ slice_cmp nat_cmp (take 1 (drop i xs)) (take 1 (drop i ys))
one_byte i xs ys p q = rw (drop-cons xs i 0 p, drop-cons ys i 0 q) (by (nat_cmp (get_or xs i 0) (get_or ys i 0)))
  where
    by : (o : Ordering) → o ≡ ordering_then o Equal
    by Less = refl
    by Equal = refl
    by Greater = refl

-- ---- zeros behind the texts

nat_cmp-suc : (n m : ℕ) (o : Ordering) → MatchOrdering o (n < m) (n ≡ m) (m < n) → o ≡ nat_cmp (suc n) (suc m)
nat_cmp-suc n m Less less = let under : n < m = less in nat_cmp_is (suc n) (suc m) Less (omega arith)
nat_cmp-suc n m Equal same = let level : n ≡ m = same in nat_cmp_is (suc n) (suc m) Equal (omega arith)
nat_cmp-suc n m Greater greater = let over : m < n = greater in nat_cmp_is (suc n) (suc m) Greater (omega arith)

-- a longer text is behind zeros, even if it has only zeros
zeros_first : (k m : ℕ) (ys : List ℕ) → k ≡ length ys → 0 < m →
    ordering_then (slice_cmp nat_cmp (replicate k 0) ys) (nat_cmp 0 m) ≡ Less
zeros_first zero m [] e some = sym (nat_cmp_is 0 m Less some)
zeros_first zero m (y ∷ ys) e some = absurd (omega arith)
zeros_first (suc k) m [] e some = absurd (omega arith)
zeros_first (suc k) m (y ∷ ys) e some = by (zeros_first k m ys (omega arith) some) (nat_cmp 0 y) (ranks 0 y)
  where
    by : ordering_then (slice_cmp nat_cmp (replicate k 0) ys) (nat_cmp 0 m) ≡ Less →
        (o : Ordering) → MatchOrdering o (0 < y) (0 ≡ y) (y < 0) →
        ordering_then (ordering_then o (slice_cmp nat_cmp (replicate k 0) ys)) (nat_cmp 0 m) ≡ Less
    by next Less less = refl
    by next Equal same = next
    by next Greater never = let below : y < 0 = never in absurd (omega arith)

zeros_last : (k n : ℕ) (xs : List ℕ) → k ≡ length xs → 0 < n →
    ordering_then (slice_cmp nat_cmp xs (replicate k 0)) (nat_cmp n 0) ≡ Greater
zeros_last zero n [] e some = sym (nat_cmp_is n 0 Greater some)
zeros_last zero n (x ∷ xs) e some = absurd (omega arith)
zeros_last (suc k) n [] e some = absurd (omega arith)
zeros_last (suc k) n (x ∷ xs) e some = by (zeros_last k n xs (omega arith) some) (nat_cmp x 0) (ranks x 0)
  where
    by : ordering_then (slice_cmp nat_cmp xs (replicate k 0)) (nat_cmp n 0) ≡ Greater →
        (o : Ordering) → MatchOrdering o (x < 0) (x ≡ 0) (0 < x) →
        ordering_then (ordering_then o (slice_cmp nat_cmp xs (replicate k 0))) (nat_cmp n 0) ≡ Greater
    by next Less never = let below : x < 0 = never in absurd (omega arith)
    by next Equal same = next
    by next Greater greater = refl

-- texts with zeros behind them are ordered as the wholes are, and where these are the same as their lengths
pub padded_order : (n p m q : ℕ) (xs ys : List ℕ) → n + p ≡ length xs → m + q ≡ length ys → length xs ≡ length ys →
    drop n xs ≡ replicate p 0 → drop m ys ≡ replicate q 0 →
    slice_cmp nat_cmp (take n xs) (take m ys) ≡ ordering_then (slice_cmp nat_cmp xs ys) (nat_cmp n m)
padded_order zero p zero q xs ys left right e before behind =
    let width : p ≡ q = omega arith in
    let same : xs ≡ ys = before ∙ ap (λ k. replicate k 0) width ∙ sym behind in
    rw (same, tied_itself nat_list_cmp_total ys, ← nat_cmp_is 0 0 Equal refl) refl
padded_order zero p (suc m) q xs [] left right e before behind = absurd (omega arith)
padded_order zero p (suc m) q xs (y ∷ ys) left right e before behind =
    sym (rw before (zeros_first p (suc m) (y ∷ ys) (omega arith) (omega arith)))
padded_order (suc n) p zero q [] ys left right e before behind = absurd (omega arith)
padded_order (suc n) p zero q (x ∷ xs) ys left right e before behind =
    sym (rw behind (zeros_last q (suc n) (x ∷ xs) (omega arith) (omega arith)))
padded_order (suc n) p (suc m) q [] ys left right e before behind = absurd (omega arith)
padded_order (suc n) p (suc m) q (x ∷ xs) [] left right e before behind = absurd (omega arith)
padded_order (suc n) p (suc m) q (x ∷ xs) (y ∷ ys) left right e before behind =
    let next = padded_order n p m q xs ys (omega arith) (omega arith) (omega arith) before behind in
    rw (next, ← nat_cmp-suc n m _ (ranks n m)) (then_assoc (nat_cmp x y) (slice_cmp nat_cmp xs ys) (nat_cmp n m))
