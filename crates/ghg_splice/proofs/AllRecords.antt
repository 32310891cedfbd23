-- The records that a reader of a text gives, one after another, are those of the text.
use Rattle.std.proofs.Common.{Bor, ◌≡◌, ◌∙◌, ◌≤◌, ◌<◌, ◌+◌, ◌-◌, ℕ, zero, suc, List, [], ◌∷◌, ◌++◌, length, Option, Some, None, true, false, refl, sym, subst, arith, inl, inr}
use Rattle.std.proofs.lemmas.Bool.{cases_Bool, false≢true}
use Rattle.csv.specs.Machine.{Read, ends_at_end, field_after, fields_after, is_end, next_record, step}
use Rattle.csv.specs.Reading.{ExplainsRead, Reached, Ready, default_config, is_flexible, reader_config, reader_state, reader_trim, records, records_from, source_of, stops_reader, strip_bom}
use Rattle.csv.specs.declared.error.ErrorKind.{ErrorKind}
use Rattle.csv.specs.declared.error.ErrorKind.TheVariants as kinds
use Rattle.csv.specs.declared.iter.ByteRecordsIntoIter.{ByteRecordsIntoIter}
use Rattle.csv.specs.declared.parser.State.{State}
use Rattle.csv.specs.declared.parser.State.TheVariants as st
use Rattle.csv.specs.declared.reader.Reader.{Reader}
use Rattle.csv.specs.declared.reader.Trim.TheVariants as trims

-- ---- a reader

-- the bytes that a slice has left
abbrev pub rest : Bor (List ℕ) → Option (List ℕ)
rest s = Some s.now

-- an iterator that gives records of any length as they stand
pub record IsReading (it : ByteRecordsIntoIter (Bor (List ℕ))) : Type 0 where
  pub trim : reader_trim it.rdr ≡ trims.None
  pub ready : Ready it.rdr
  pub left : 0 < it.left
  pub config : reader_config it.rdr ≡ default_config
  pub flexible : is_flexible it.rdr ≡ true

-- a reader that has given these records of a text, and the bytes that it has left
pub record IsAhead (text : List ℕ) (rows : List (List (List ℕ))) (reader : Reader (Bor (List ℕ))) : Type 0 where
  pub left : List ℕ
  pub known : source_of rest reader ≡ Some left
  pub reached : Reached default_config st.StartRecord (strip_bom text) rows (reader_state reader) left

-- why a read failed
pub fails_by_memory : (a b : Reader (Bor (List ℕ))) (kind : ErrorKind) → is_flexible a ≡ true → ExplainsRead rest a b false kind → stops_reader kind ≡ true
fails_by_memory a b (kinds.Io error) flexible why = refl
fails_by_memory a b kinds.OutOfMemory flexible why = refl
fails_by_memory a b (kinds.Utf8 place error) flexible why = absurd (false≢true why.0)
fails_by_memory a b (kinds.UnequalLengths place expected len) flexible why = absurd (false≢true (sym why.0 ∙ flexible))
fails_by_memory a b (kinds.Serialize text) flexible why = absurd why
fails_by_memory a b (kinds.Deserialize place error) flexible why = absurd why

-- ---- a record takes bytes

-- between two records nothing is at hand that the end of a text would end
abbrev IsBetween : State → Type 0
IsBetween s = ends_at_end s ≡ false

behind_end : (s : State) (c : ℕ) → is_end (step default_config s c).1 ≡ true → IsBetween (step default_config s c).0
behind_end st.StartRecord c h = grind arith
behind_end st.StartField c h = grind arith
behind_end st.InField c h = grind arith
behind_end st.InQuoted c h = grind arith
behind_end st.InEscape c h = grind arith
behind_end st.AfterQuote c h = grind arith
behind_end st.InComment c h = grind arith
behind_end st.AfterCr c h = grind arith

-- what a record leaves: fewer bytes than these, between two records
record Leaves (size : ℕ) (p : Read) : Type 0 where
  pub fewer : length p.2 ≤ size
  pub between : IsBetween p.1

leaves_same : (size : ℕ) (p q : Read) → ◌≡◌ {A = Option Read} (Some p) (Some q) → Leaves size p → Leaves size q
leaves_same size p q e h = let same : p ≡ q = cc in subst (Leaves size) same h

wider : (m n : ℕ) (p : Read) → m ≤ n → Leaves m p → Leaves n p
wider m n p le h = record { fewer = omega (arith, h.fewer); between = h.between }

cut : (s : State) (fields : List (List ℕ)) (field text : List ℕ) (p : Read) → next_record default_config s fields field text ≡ Some p → Leaves (length text - 1) p
unfolding next_record
cut s fields field [] p h = elim (cases_Bool (ends_at_end s)) [
  | inl ends ↦ leaves_same 0 (fields ++ (field ∷ []), st.StartRecord, []) p (rw ends at h) (record { fewer = omega arith; between = refl })
  | inr goes ↦ let none : ◌≡◌ {A = Option Read} None (Some p) = rw goes at h in absurd (cc)
]
cut s fields field (c ∷ text) p h = elim (cases_Bool (is_end (step default_config s c).1)) [
  | inl ends ↦ leaves_same (length (c ∷ text) - 1) (fields_after (step default_config s c).1 fields field, (step default_config s c).0, text) p (rw ends at h) (record { fewer = omega arith; between = behind_end s c ends })
  | inr goes ↦ wider (length text - 1) (length (c ∷ text) - 1) p (omega arith) (cut (step default_config s c).0 (fields_after (step default_config s c).1 fields field) (field_after (step default_config s c).1 c field) text p (rw goes at h))
]

-- between two records, a record takes a byte
takes_byte : (s : State) (text : List ℕ) (p : Read) → IsBetween s → next_record default_config s [] [] text ≡ Some p → length p.2 < length text
unfolding next_record
takes_byte s [] p between h = let none : ◌≡◌ {A = Option Read} None (Some p) = rw between at h in absurd (cc)
takes_byte s (c ∷ text) p between h = omega (arith, (cut s [] [] (c ∷ text) p h).fewer)

-- ---- all records

-- records that lead to where there is none are all that a text has
all_from : (n : ℕ) (s : State) (text : List ℕ) (rows : List (List (List ℕ))) (s2 : State) (left : List ℕ) → length text < n → IsBetween s
    → Reached default_config s text rows s2 left → next_record default_config s2 [] [] left ≡ None → records_from default_config n s text ≡ rows
unfolding records_from Reached
all_from zero s text rows s2 left small between reached none = absurd (omega arith)
all_from (suc n) s text [] s2 left small between (state, same) none = rw (state, same, none) refl
all_from (suc n) s text (row ∷ rows) s2 left small between (p, read, first, later) none =
    let fewer = takes_byte s text p between read in
    let tail = all_from n p.1 p.2 rows s2 left (omega arith) (cut s [] [] text p read).between later none in
    rw (read, first, tail) refl

pub all_records : (text : List ℕ) (rows : List (List (List ℕ))) (s : State) (left : List ℕ) → Reached default_config st.StartRecord (strip_bom text) rows s left
    → next_record default_config s [] [] left ≡ None → rows ≡ records default_config (strip_bom text)
all_records text rows s left reached none =
    sym (all_from (length (strip_bom text) + 1) st.StartRecord (strip_bom text) rows s left (omega arith) refl reached none)
