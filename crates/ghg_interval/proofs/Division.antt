-- The quotient of two intervals, of which the second does not hold zero.
use Rattle.std.proofs.Common.{◌≡◌, ℕ, zero, suc, ◌*◌, ◌<◌, min, ℤ, pos, negsuc, neg_ℤ, ◌-ℤ◌, ◌*ℤ◌, ◌≤ℤ◌, ◌<ℤ◌, arith}
use Rattle.std.proofs.Common.{Bool, true, false, T, int_le, Ok, Err, refl, sym, ap, ◌∙◌, zero-lt-suc}
use Rattle.std.proofs.lemmas.Float.{T_from_true}
use Rattle.std.proofs.lemmas.Int.{ints, by_lt_z}
use Rattle.std.specs.Int.{int_div_euclid, int_signum}
use Rattle.ghg_interval.specs.declared.DivRefusal.TheVariants as refused
use Rattle.ghg_interval.specs.Fractions as fraction
use Rattle.ghg_interval.specs.Fractions.{Fraction, reciprocal}
use Rattle.ghg_interval.specs.Laws.{QuotientsUndoProducts}
use Rattle.ghg_interval.specs.Rounding.{floor_over, ceil_over}
use Rattle.ghg_interval.specs.Bounds.{Bounds, AreBounded, HoldsZero, Inside, unit_scale, quotient}
use Rattle.ghg_interval.specs.Containment.{HoldsBy}
use Rattle.ghg_interval.specs.Operations.{holds_zero, quotient_in}
use Rattle.ghg_interval.proofs.Products.{times_comm, times_assoc, times_right, times_neg, times_turned, neg_times}
use Rattle.ghg_interval.proofs.Order.{trans, turned, times_natural, cancel, edge_low, least_of, greatest_of}
use Rattle.ghg_interval.proofs.Quotients.{floors_are_greatest, ceils_are_least, floor_ceil}
use Rattle.ghg_interval.proofs.Equality.{at_most}
use Rattle.ghg_interval.proofs.Limits.{not_both, bounded, beyond}
use Rattle.ghg_interval.proofs.Containment.{unit_positive}

-- ---- the sign of a divisor

sign_up : (z : ℤ) (n : ℕ) → z *ℤ int_signum (pos (suc n)) ≡ z
sign_up z n = let e : min (suc n) 1 ≡ 1 = omega arith in rw e (omega (arith, ints))

sign_down : (z : ℤ) (n : ℕ) → z *ℤ int_signum (negsuc n) ≡ neg_ℤ z
sign_down z n = omega (arith, ints)

-- what is not above a quotient rounded down, and what is not below one rounded up, by a positive divisor
under_up : (m d z : ℤ) → pos 0 <ℤ d → m ≤ℤ floor_over d z → (m *ℤ d) ≤ℤ z
under_up m (pos zero) z h k = absurd (omega (arith, ints))
under_up m (pos (suc n)) z h k =
    let below = (floors_are_greatest (suc n) (z *ℤ int_signum (pos (suc n))) (zero-lt-suc n)).below in
    trans _ _ _ (times_natural (suc n) _ _ k) (trans _ _ _ below (at_most _ _ (sign_up z n)))
under_up m (negsuc n) z h k = absurd (omega (arith, ints))

over_up : (m d z : ℤ) → pos 0 <ℤ d → ceil_over d z ≤ℤ m → z ≤ℤ (m *ℤ d)
over_up m (pos zero) z h k = absurd (omega (arith, ints))
over_up m (pos (suc n)) z h k =
    let above = (ceils_are_least (suc n) (z *ℤ int_signum (pos (suc n))) (zero-lt-suc n)).above in
    trans _ _ _ (at_most _ _ (sym (sign_up z n))) (trans _ _ _ above (times_natural (suc n) _ _ k))
over_up m (negsuc n) z h k = absurd (omega (arith, ints))

-- and by a negative one
under_down : (m d z : ℤ) → d <ℤ pos 0 → m ≤ℤ floor_over d z → (m *ℤ neg_ℤ d) ≤ℤ neg_ℤ z
under_down m (pos n) z h k = absurd (omega (arith, ints))
under_down m (negsuc n) z h k =
    let below = (floors_are_greatest (suc n) (z *ℤ int_signum (negsuc n)) (zero-lt-suc n)).below in
    trans _ _ _ (times_natural (suc n) _ _ k) (trans _ _ _ below (at_most _ _ (sign_down z n)))

over_down : (m d z : ℤ) → d <ℤ pos 0 → ceil_over d z ≤ℤ m → neg_ℤ z ≤ℤ (m *ℤ neg_ℤ d)
over_down m (pos n) z h k = absurd (omega (arith, ints))
over_down m (negsuc n) z h k =
    let above = (ceils_are_least (suc n) (z *ℤ int_signum (negsuc n)) (zero-lt-suc n)).above in
    trans _ _ _ (at_most _ _ (sym (sign_down z n))) (trans _ _ _ above (times_natural (suc n) _ _ k))

-- rounded up by a negative divisor, with the opposite of it
pub ceil_down : (y z : ℤ) → y ≤ℤ pos 0 → (y ≡ pos 0 → ⊥) → pos 0 -ℤ int_div_euclid z (pos 0 -ℤ y) ≡ ceil_over y z
ceil_down (pos zero) z h never = absurd (never refl)
ceil_down (pos (suc n)) z h never = absurd (omega (arith, ints))
ceil_down (negsuc n) z h never =
    let divisor : pos 0 -ℤ negsuc n ≡ pos (suc n) = omega (arith, ints) in
    let twice : neg_ℤ (z *ℤ int_signum (negsuc n)) ≡ z = omega (arith, ints, sign_down z n) in
    let minus : pos 0 -ℤ int_div_euclid z (pos (suc n)) ≡ neg_ℤ (int_div_euclid z (pos (suc n))) = omega (arith, ints) in
    ap (λ d. pos 0 -ℤ int_div_euclid z d) divisor ∙ minus ∙ ap (λ t. neg_ℤ (int_div_euclid t (pos (suc n)))) (sym twice)

-- ---- order

floor_ceil_over : (d z : ℤ) → (d ≡ pos 0 → ⊥) → floor_over d z ≤ℤ ceil_over d z
floor_ceil_over (pos zero) z h = absurd (h refl)
floor_ceil_over (pos (suc n)) z h = floor_ceil (suc n) _ (zero-lt-suc n)
floor_ceil_over (negsuc n) z h = floor_ceil (suc n) _ (zero-lt-suc n)

pub low_not_zero : (b : Bounds) → (HoldsZero b → ⊥) → b.lo ≤ℤ b.hi → b.lo ≡ pos 0 → ⊥
low_not_zero b never h e = never (record { below = omega (arith, ints); above = omega (arith, ints) })

pub high_not_zero : (b : Bounds) → (HoldsZero b → ⊥) → b.lo ≤ℤ b.hi → b.hi ≡ pos 0 → ⊥
high_not_zero b never h e = never (record { below = omega (arith, ints); above = omega (arith, ints) })

pub quotient_ordered : (a b : Bounds) → (HoldsZero b → ⊥) → b.lo ≤ℤ b.hi → (quotient a b).lo ≤ℤ (quotient a b).hi
quotient_ordered a b never h =
    let down : ℤ → ℤ → ℤ = λ x y. floor_over y (x *ℤ pos unit_scale) in
    let up : ℤ → ℤ → ℤ = λ x y. ceil_over y (x *ℤ pos unit_scale) in
    trans _ _ _ (least_of (down a.lo b.lo) (down a.lo b.hi) (down a.hi b.lo) (down a.hi b.hi)).0
    (trans _ _ _ (floor_ceil_over b.lo (a.lo *ℤ pos unit_scale) (low_not_zero b never h))
    (greatest_of (up a.lo b.lo) (up a.lo b.hi) (up a.hi b.lo) (up a.hi b.hi)).0)

-- ---- containment: a fraction n / f by a fraction m / e between positive bounds c and d, where s is the unit

edge_high : (a c d y m : ℤ) → c ≤ℤ y → y ≤ℤ d → (a *ℤ c) ≤ℤ m → (a *ℤ d) ≤ℤ m → (a *ℤ y) ≤ℤ m
edge_high a c d y m cy yd ac ad =
    let low : neg_ℤ m ≤ℤ (neg_ℤ a *ℤ y) =
    edge_low (neg_ℤ a) c d y (neg_ℤ m) cy yd (omega (arith, ints, neg_times a c)) (omega (arith, ints, neg_times a d)) in
    omega (arith, ints, neg_times a y)

-- factors in another order
quotient_side : (q m s f : ℤ) → (q *ℤ (m *ℤ s)) *ℤ f ≡ ((q *ℤ m) *ℤ f) *ℤ s
quotient_side q m s f = ap (λ t. t *ℤ f) (sym (times_assoc q m s)) ∙ times_right (q *ℤ m) s f

bound_side : (u s e f : ℤ) → ((u *ℤ s) *ℤ e) *ℤ f ≡ (u *ℤ f) *ℤ (s *ℤ e)
bound_side u s e f = ap (λ t. t *ℤ f) (times_assoc u s e) ∙ times_right u (s *ℤ e) f

fraction_side : (n s e : ℤ) → (n *ℤ s) *ℤ (s *ℤ e) ≡ ((n *ℤ e) *ℤ s) *ℤ s
fraction_side n s e = sym (times_assoc (n *ℤ s) s e) ∙ times_right (n *ℤ s) s e ∙ ap (λ t. t *ℤ s) (times_right n s e)

module _ (q u c d n m : ℤ) (e f : ℕ) (cm : (c *ℤ pos e) ≤ℤ (m *ℤ pos unit_scale)) (md : (m *ℤ pos unit_scale) ≤ℤ (d *ℤ pos e)) where
  above_quotient : (q *ℤ c) ≤ℤ (u *ℤ pos unit_scale) → (q *ℤ d) ≤ℤ (u *ℤ pos unit_scale) → (u *ℤ pos f) ≤ℤ (n *ℤ pos unit_scale) → ((q *ℤ m) *ℤ pos f) ≤ℤ ((n *ℤ pos e) *ℤ pos unit_scale)
  above_quotient qc qd un =
      let s = pos unit_scale in
      let first : (q *ℤ (c *ℤ pos e)) ≤ℤ ((u *ℤ s) *ℤ pos e) = rw (← times_assoc q c (pos e)) (times_natural e _ _ qc) in
      let second : (q *ℤ (d *ℤ pos e)) ≤ℤ ((u *ℤ s) *ℤ pos e) = rw (← times_assoc q d (pos e)) (times_natural e _ _ qd) in
      let third : (q *ℤ (m *ℤ s)) ≤ℤ ((u *ℤ s) *ℤ pos e) = edge_high q _ _ _ _ cm md first second in
      let fourth = rw (quotient_side q m s (pos f), bound_side u s (pos e) (pos f)) at (times_natural f _ _ third) in
      let fifth = rw (fraction_side n s (pos e)) at (times_natural (unit_scale * e) _ _ un) in
      cancel unit_scale _ _ unit_positive (trans _ _ _ fourth fifth)

  below_quotient : (u *ℤ pos unit_scale) ≤ℤ (q *ℤ c) → (u *ℤ pos unit_scale) ≤ℤ (q *ℤ d) → (n *ℤ pos unit_scale) ≤ℤ (u *ℤ pos f) → ((n *ℤ pos e) *ℤ pos unit_scale) ≤ℤ ((q *ℤ m) *ℤ pos f)
  below_quotient uc ud nu =
      let s = pos unit_scale in
      let first : ((u *ℤ s) *ℤ pos e) ≤ℤ (q *ℤ (c *ℤ pos e)) = rw (← times_assoc q c (pos e)) (times_natural e _ _ uc) in
      let second : ((u *ℤ s) *ℤ pos e) ≤ℤ (q *ℤ (d *ℤ pos e)) = rw (← times_assoc q d (pos e)) (times_natural e _ _ ud) in
      let third : ((u *ℤ s) *ℤ pos e) ≤ℤ (q *ℤ (m *ℤ s)) = edge_low q _ _ _ _ cm md first second in
      let fourth = rw (quotient_side q m s (pos f), bound_side u s (pos e) (pos f)) at (times_natural f _ _ third) in
      let fifth = rw (fraction_side n s (pos e)) at (times_natural (unit_scale * e) _ _ nu) in
      cancel unit_scale _ _ unit_positive (trans _ _ _ fifth fourth)

-- the divisor's numerator beside the dividend's denominator
apart : (q m f : ℤ) → (q *ℤ m) *ℤ f ≡ q *ℤ (f *ℤ m)
apart q m f = times_right q m f ∙ times_assoc q f m

-- both products with the opposite of their first factors
opposites : (x y u v : ℤ) → (x *ℤ u) ≤ℤ (y *ℤ v) → (neg_ℤ y *ℤ v) ≤ℤ (neg_ℤ x *ℤ u)
opposites x y u v h = rw (neg_times y v, neg_times x u) (turned _ _ h)

-- the sign of the divisor above
signed : (n e s : ℤ) → (neg_ℤ n *ℤ e) *ℤ s ≡ (n *ℤ neg_ℤ e) *ℤ s
signed n e s = ap (λ t. t *ℤ s) (neg_times n e ∙ sym (times_neg n e))

module _ (a b : Bounds) (f : Fraction) (e : ℕ) (positive : 0 < e) (h : Inside a f) where
  holds_up : (m : ℤ) → pos 0 <ℤ b.lo → b.lo ≤ℤ b.hi → (b.lo *ℤ pos e) ≤ℤ (m *ℤ pos unit_scale) → (m *ℤ pos unit_scale) ≤ℤ (b.hi *ℤ pos e) → Inside (quotient a b) (fraction.product f (reciprocal m e))
  holds_up (pos zero) up ordered lm mh =
      let never : b.lo ≤ℤ pos 0 = cancel e _ _ positive (trans _ _ _ lm (omega (arith, ints))) in
      absurd (omega (arith, ints))
  holds_up (negsuc n) up ordered lm mh =
      let never : b.lo ≤ℤ pos 0 = cancel e _ _ positive (trans _ _ _ lm (omega (arith, ints))) in
      absurd (omega (arith, ints))
  holds_up (pos (suc n)) up ordered lm mh =
      let s = pos unit_scale in
      let q = quotient a b in
      let under : ℤ → ℤ → ℤ = λ x y. floor_over y (x *ℤ s) in
      let over : ℤ → ℤ → ℤ = λ x y. ceil_over y (x *ℤ s) in
      let high : pos 0 <ℤ b.hi = omega (arith, ints) in
      let lows = least_of (under a.lo b.lo) (under a.lo b.hi) (under a.hi b.lo) (under a.hi b.hi) in
      let highs = greatest_of (over a.lo b.lo) (over a.lo b.hi) (over a.hi b.lo) (over a.hi b.hi) in
      let m = pos (suc n) in
      record {
        above = rw (apart q.lo m (pos f.denominator)) at (above_quotient q.lo a.lo b.lo b.hi f.numerator m e f.denominator lm mh (under_up q.lo b.lo _ up lows.0) (under_up q.lo b.hi _ high lows.1) h.above);
        below = rw (apart q.hi m (pos f.denominator)) at (below_quotient q.hi a.hi b.lo b.hi f.numerator m e f.denominator lm mh (over_up q.hi b.lo _ up highs.2) (over_up q.hi b.hi _ high highs.3) h.below);
      }

  holds_down : (m : ℤ) → b.hi <ℤ pos 0 → b.lo ≤ℤ b.hi → (b.lo *ℤ pos e) ≤ℤ (m *ℤ pos unit_scale) → (m *ℤ pos unit_scale) ≤ℤ (b.hi *ℤ pos e) → Inside (quotient a b) (fraction.product f (reciprocal m e))
  holds_down (pos n) down ordered lm mh =
      let never : pos 0 ≤ℤ b.hi = cancel e _ _ positive (trans _ _ _ (omega (arith, ints)) mh) in
      absurd (omega (arith, ints))
  holds_down (negsuc n) down ordered lm mh =
      let s = pos unit_scale in
      let q = quotient a b in
      let under : ℤ → ℤ → ℤ = λ x y. floor_over y (x *ℤ s) in
      let over : ℤ → ℤ → ℤ = λ x y. ceil_over y (x *ℤ s) in
      let low : b.lo <ℤ pos 0 = omega (arith, ints) in
      let lows = least_of (under a.lo b.lo) (under a.lo b.hi) (under a.hi b.lo) (under a.hi b.hi) in
      let highs = greatest_of (over a.lo b.lo) (over a.lo b.hi) (over a.hi b.lo) (over a.hi b.hi) in
      let m = pos (suc n) in
      let n' = neg_ℤ f.numerator in
      let cm : (neg_ℤ b.hi *ℤ pos e) ≤ℤ (m *ℤ s) = opposites (negsuc n) b.hi s (pos e) mh in
      let md : (m *ℤ s) ≤ℤ (neg_ℤ b.lo *ℤ pos e) = opposites b.lo (negsuc n) (pos e) s lm in
      let above = above_quotient q.lo (neg_ℤ a.hi) (neg_ℤ b.hi) (neg_ℤ b.lo) n' m e f.denominator cm md (rw (neg_times a.hi s) (under_down q.lo b.hi _ down lows.3)) (rw (neg_times a.hi s) (under_down q.lo b.lo _ low lows.2)) (opposites f.numerator a.hi s (pos f.denominator) h.below) in
      let below = below_quotient q.hi (neg_ℤ a.lo) (neg_ℤ b.hi) (neg_ℤ b.lo) n' m e f.denominator cm md (rw (neg_times a.lo s) (over_down q.hi b.hi _ down highs.1)) (rw (neg_times a.lo s) (over_down q.hi b.lo _ low highs.0)) (opposites a.lo f.numerator (pos f.denominator) s h.above) in
      record {
        above = rw (apart q.lo m (pos f.denominator), signed f.numerator (pos e) s) at above;
        below = rw (apart q.hi m (pos f.denominator), signed f.numerator (pos e) s) at below;
      }

pub quotient_holds : (a b : Bounds) → (HoldsZero b → ⊥) → HoldsBy fraction.quotient a b (quotient a b)
quotient_holds a b never f g h k =
    let ordered : b.lo ≤ℤ b.hi = cancel g.denominator _ _ g.positive (trans _ _ _ k.above k.below) in
    by_lt_z (pos 0) b.lo
    (λ (up : pos 0 <ℤ b.lo). holds_up a b f g.denominator g.positive h g.numerator up ordered k.above k.below)
    (λ (low : b.lo ≤ℤ pos 0). by_lt_z b.hi (pos 0)
    (λ (down : b.hi <ℤ pos 0). holds_down a b f g.denominator g.positive h g.numerator down ordered k.above k.below)
    (λ (high : pos 0 ≤ℤ b.hi). absurd (never (record { below = low; above = high }))))

-- ---- what is answered

is_true : (t : Bool) → T t → t ≡ true
is_true true h = refl
is_true false h = absurd h

zero_held : (b : Bounds) → HoldsZero b → holds_zero b ≡ true
zero_held b h = rw (is_true _ h.below.le, is_true _ h.above.le) refl

zero_missed : (b : Bounds) → (HoldsZero b → ⊥) → holds_zero b ≡ false
zero_missed b h = not_both (int_le b.lo (pos 0)) (int_le (pos 0) b.hi) (λ p q. h (record { below = record { le = T_from_true _ p }; above = record { le = T_from_true _ q } }))

pub answers_zero : (a b : Bounds) → HoldsZero b → Err refused.Zero ≡ quotient_in a b
unfolding quotient_in
answers_zero a b h = rw (zero_held b h) refl

pub answers_over : (a b : Bounds) → (HoldsZero b → ⊥) → (AreBounded (quotient a b) → ⊥) → Err refused.Over ≡ quotient_in a b
unfolding quotient_in
answers_over a b h k = rw (zero_missed b h, beyond _ k) refl

pub answers_quotient : (a b q : Bounds) → (HoldsZero b → ⊥) → AreBounded (quotient a b) → q ≡ quotient a b → Ok q ≡ quotient_in a b
unfolding quotient_in
answers_quotient a b q h k e = rw (zero_missed b h, bounded _ k) (ap Ok e)

-- ---- the law of quotients of fractions

around : (n e m d : ℤ) → ((n *ℤ e) *ℤ m) *ℤ d ≡ n *ℤ ((d *ℤ m) *ℤ e)
around n e m d = apart (n *ℤ e) m d ∙ times_assoc n e (d *ℤ m) ∙ ap (λ t. n *ℤ t) (times_comm e (d *ℤ m))

undone : (a : Fraction) (m : ℤ) (e : ℕ) (positive : 0 < e) → (m ≡ pos 0 → ⊥) → fraction.Equals (fraction.product (fraction.product a (reciprocal m e)) (record { numerator = m; denominator = e; positive = positive })) a
undone a (pos zero) e positive h = absurd (h refl)
undone a (pos (suc n)) e positive h = record { same = around a.numerator (pos e) (pos (suc n)) (pos a.denominator) }
undone a (negsuc n) e positive h = record {
  same = around a.numerator (neg_ℤ (pos e)) (negsuc n) (pos a.denominator)
      ∙ ap (λ t. a.numerator *ℤ t) (times_turned (pos a.denominator) (pos (suc n)) (pos e));
}

pub quotients_undo_products : QuotientsUndoProducts
quotients_undo_products a b h = undone a b.numerator b.denominator b.positive h
