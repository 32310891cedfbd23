-- The count of faults over several calls, and where a failure is told in other words.
use Rattle.std.proofs.Common.{◌≡◌, ℕ, ◌⊎◌, inl, inr, refl, ap, subst, arith, Result, Ok, Err, IsErrOf}
use Rattle.ghg_outer.specs.Counts.{IsCounted}

-- no call failed
pub counted_none : (a : ℕ) (failed : Type 0) → (failed → ⊥) → IsCounted a a failed
counted_none a failed never = record { later = omega arith; rose = λ is. absurd (never is); stays = inr refl }

pub count_stays : (a b : ℕ) (failed : Type 0) → (failed → ⊥) → IsCounted a b failed → b ≡ a
count_stays a b failed never counted = by counted.stays
  where
    by : failed ⊎ (b ≡ a) → b ≡ a
    by (inl is) = absurd (never is)
    by (inr same) = same

-- no call before failed
pub counted_on : (a b c : ℕ) (failed : Type 0) → b ≡ a → IsCounted b c failed → IsCounted a c failed
counted_on a b c failed same counted = subst (λ n. IsCounted n c failed) same counted

-- the failure in other words
pub counted_as : (a b : ℕ) (failed told : Type 0) → (told → failed) → (failed → told) → IsCounted a b failed → IsCounted a b told
counted_as a b failed told from to counted = record {
  later = counted.later;
  rose = λ is. counted.rose (from is);
  stays = by counted.stays;
}
  where
    by : failed ⊎ (b ≡ a) → told ⊎ (b ≡ a)
    by (inl is) = inl (to is)
    by (inr same) = inr same

-- an error that is handed on
pub counted_err : {T U E : Type 0} (a b : ℕ) (error failed : E) → IsCounted a b (IsErrOf {T = T} (Err error) failed)
    → IsCounted a b (IsErrOf {T = U} (Err error) failed)
counted_err a b error failed counted = counted_as a b _ _ (λ e. cc) (λ e. cc) counted

-- and one that is told as itself
pub counted_told : {T E : Type 0} (a b : ℕ) (error failed : E) → IsCounted a b (IsErrOf {T = T} (Err error) failed)
    → IsCounted a b (error ≡ failed)
counted_told a b error failed counted = counted_as a b _ _ (ap Err) (λ e. cc) counted
