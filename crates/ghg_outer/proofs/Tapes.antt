-- What is read and written piece by piece, and prefixes of what is written.
use Rattle.std.proofs.Common.{◌≡◌, ℕ, ◌+◌, List, [], ◌++◌, length, take, min, append-nil, length-append, refl, subst, sym, ◌∙◌, arith}
use Rattle.std.proofs.KnownBytes.{Appends-nil, Appends-trans, Consumes-nil, Consumes-trans, Keeps-refl, Keeps-trans}
use Rattle.std.proofs.Math.Seq.{take-append-add, take-length}
use Rattle.std.proofs.lemmas.List.{take-append-le, take_min}
use Rattle.ghg_outer.specs.Tape.{Appends, AppendsPrefix, AppendsProperPrefix, Consumes, Tape}

-- ---- reading

pub consumes_nothing : (a : Tape) → Consumes a a []
consumes_nothing a = record {
  left = Consumes-nil a.left;
  taken = Appends-nil a.taken;
  written = Keeps-refl a.written;
  counts = omega arith;
  grows = refl;
}

pub consumes_more : (a b c : Tape) (xs ys : List ℕ) → Consumes a b xs → Consumes b c ys → Consumes a c (xs ++ ys)
consumes_more a b c xs ys p q = record {
  left = Consumes-trans a.left b.left c.left xs ys p.left q.left;
  taken = Appends-trans a.taken b.taken c.taken xs ys p.taken q.taken;
  written = Keeps-trans a.written b.written c.written p.written q.written;
  counts = omega (arith, p.counts, q.counts);
  grows = q.grows ∙ p.grows;
}

pub consumes_no_more : (a b c : Tape) (xs : List ℕ) → Consumes a b xs → Consumes b c [] → Consumes a c xs
consumes_no_more a b c xs p q = let both = consumes_more a b c xs [] p q in simp append-nil at both

-- ---- writing

pub appends_nothing : (a : Tape) → Appends a a []
appends_nothing a = record {
  left = Keeps-refl a.left;
  taken = Keeps-refl a.taken;
  written = Appends-nil a.written;
  counts = omega arith;
  grows = refl;
}

pub appends_more : (a b c : Tape) (xs ys : List ℕ) → Appends a b xs → Appends b c ys → Appends a c (xs ++ ys)
appends_more a b c xs ys p q = record {
  left = Keeps-trans a.left b.left c.left p.left q.left;
  taken = Keeps-trans a.taken b.taken c.taken p.taken q.taken;
  written = Appends-trans a.written b.written c.written xs ys p.written q.written;
  counts = omega (arith, p.counts, q.counts);
  grows = q.grows ∙ p.grows;
}

pub appends_no_more : (a b c : Tape) (xs : List ℕ) → Appends a b xs → Appends b c [] → Appends a c xs
appends_no_more a b c xs p q = let both = appends_more a b c xs [] p q in simp append-nil at both

-- ---- prefixes

pub whole_prefix : (a b : Tape) (xs : List ℕ) → Appends a b xs → AppendsPrefix a b xs
whole_prefix a b xs p = record { count = length xs; wrote = subst (Appends a b) (sym (take-length xs)) p }

pub proper_prefix : (a b : Tape) (xs : List ℕ) → AppendsProperPrefix a b xs → AppendsPrefix a b xs
proper_prefix a b xs p = record { count = p.count; wrote = p.wrote }

-- a prefix of a prefix
prefix_of_prefix : (k : ℕ) (xs ys : List ℕ) → take (min k (length xs)) (xs ++ ys) ≡ take k xs
prefix_of_prefix k xs ys = take-append-le (min k (length xs)) xs ys (omega arith) ∙ take_min k xs

pub longer_prefix : (a b : Tape) (xs ys : List ℕ) → AppendsPrefix a b xs → AppendsPrefix a b (xs ++ ys)
longer_prefix a b xs ys p =
    record { count = min p.count (length xs); wrote = subst (Appends a b) (sym (prefix_of_prefix p.count xs ys)) p.wrote }

pub longer_proper : (a b : Tape) (xs ys : List ℕ) → AppendsProperPrefix a b xs → AppendsProperPrefix a b (xs ++ ys)
longer_proper a b xs ys p = record {
  count = p.count;
  short = omega (arith, p.short, length-append xs ys);
  wrote = subst (Appends a b) (sym (take-append-le p.count xs ys (omega (arith, p.short)))) p.wrote;
}

pub prefix_behind : (a b c : Tape) (xs ys : List ℕ) → Appends a b xs → AppendsPrefix b c ys → AppendsPrefix a c (xs ++ ys)
prefix_behind a b c xs ys p q =
    record { count = length xs + q.count; wrote = rw take-append-add (appends_more a b c xs (take q.count ys) p q.wrote) }

pub proper_behind : (a b c : Tape) (xs ys : List ℕ) → Appends a b xs → AppendsProperPrefix b c ys
    → AppendsProperPrefix a c (xs ++ ys)
proper_behind a b c xs ys p q = record {
  count = length xs + q.count;
  short = omega (arith, q.short, length-append xs ys);
  wrote = rw take-append-add (appends_more a b c xs (take q.count ys) p q.wrote);
}
