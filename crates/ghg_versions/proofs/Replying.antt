-- What the desk makes of the office's answers, and of its versions.
use Rattle.std.proofs.Common.{◌≡◌, ◌≢◌, ◌≤◌, ◌<◌, ◌==◌, Bool, true, false, nat_le, nat_lt, if◌then◌else◌, List, [], ◌∷◌, ◌++◌, map, length, ℕ, Option, Some, None, option_map, is_some, Result, Ok, Err, refl, sym, ap, subst, ◌∙◌, arith, eqb-true}
use Rattle.std.specs.List.{All, find}
use Rattle.std.proofs.lemmas.Bool.{eq-eqb}
use Rattle.std.proofs.lemmas.List.{length-map}
use Rattle.std.specs.Str.{bytes_eq}
use Rattle.ghg_definitions.specs.Compilation.{is_year_of}
use Rattle.ghg_definitions.specs.Data.{Data, span}
use Rattle.ghg_import.specs.Body.{max_body}
use Rattle.ghg_office.specs.declared.reply.Reply.{Reply}
use Rattle.ghg_office.specs.declared.reply.Reply.TheVariants as office
use Rattle.ghg_office.specs.Office.{Answer, IsRead, State, asked, decided, entered_by, refused, requested, submitted}
use Rattle.ghg_office.specs.Replies.{Answers as OfficeAnswers, Shows as OfficeShows, is_failure}
use Rattle.ghg_tables.specs.declared.table.Table.{Table as NamedTable}
use Rattle.ghg_tables.specs.Names.{table_in}
use Rattle.ghg_tables.specs.declared.values.PairValue.{PairValue}
use Rattle.ghg_units.specs.declared.rule.Rule.{Rule}
use Rattle.ghg_units.specs.declared.rule.Rule.TheVariants.{BodyTooLong}
use Rattle.ghg_units.specs.Name.{is_name, name_in}
use Rattle.ghg_versions.specs.declared.reply.DeskReply.TheVariants.{Office, Frozen, BadVersion, VersionExists, TooManyVersions, Table, NoTable, Memory}
use Rattle.ghg_versions.specs.declared.version.KeptVersion.{KeptVersion}
use Rattle.ghg_versions.specs.Desk.{DeskAnswer, DeskState, compared, compared_with, from_office, frozen, frozen_once, most_versions, present, recalculated, seq_of, unchanged, values_at}
use Rattle.ghg_versions.specs.Recalculation.{recalculation}
use Rattle.ghg_versions.specs.Replies.{Answers, HasNoFailure, office_reply, takes_memory, takes_memory_for}
use Rattle.ghg_versions.specs.Versions.{IsKept, column_at, version_of}
use Rattle.ghg_versions.proofs.Looking.{found, seq_named}

-- ---- the office's answers

-- a new submission whose body is read is no repeat
pub read_takes : (s : State) (id body : List ℕ) → IsRead s id body → takes_memory_for (submitted s id body).reply ≡ true
unfolding submitted
read_takes s id body read = rw (read.id_form, read.new_id) (judged_takes (nat_lt max_body (length body)))
  where
    decided_takes : (made : Result Data Rule) → takes_memory_for (decided s id body made).reply ≡ true
    decided_takes (Err rule) = refl
    decided_takes (Ok m) = refl

    judged_takes : (long : Bool) → takes_memory_for (if long then refused s BodyTooLong else decided s id body (entered_by s body)).reply ≡ true
    judged_takes true = refl
    judged_takes false = decided_takes (entered_by s body)

-- a table that is there takes memory
pub requested_takes : (s : State) (table : List ℕ) (year : ℕ) → requested s table year ≢ office.NoTable → takes_memory_for (requested s table year) ≡ true
unfolding requested
requested_takes s name year there = by (table_in name) there
  where
    within : (is : Bool) (text : List ℕ) → (if is then office.Table text else office.NoTable) ≢ office.NoTable → takes_memory_for (if is then office.Table text else office.NoTable) ≡ true
    within true text there = refl
    within false text there = absurd (there refl)

    by : (found : Option NamedTable) → asked s year found ≢ office.NoTable → takes_memory_for (asked s year found) ≡ true
    by None there = absurd (there refl)
    by (Some table) there = within (is_year_of (span s.content) year) _ there

-- a request is answered without a failure
requested_answers : (s : State) (table : List ℕ) (year : ℕ) → is_failure (requested s table year) ≡ false
unfolding requested
requested_answers s name year = by (table_in name)
  where
    within : (is : Bool) (text : List ℕ) → is_failure (if is then office.Table text else office.NoTable) ≡ false
    within true text = refl
    within false text = refl

    by : (found : Option NamedTable) → is_failure (asked s year found) ≡ false
    by None = refl
    by (Some table) = within (is_year_of (span s.content) year) _

pub memory_is : (reply : Reply) → office_reply reply ≡ Memory → reply ≡ office.Memory
memory_is (office.Accepted seq cells) e = absurd (cc)
memory_is (office.Repeated seq) e = absurd (cc)
memory_is (office.Refused rule) e = absurd (cc)
memory_is (office.Table text) e = absurd (cc)
memory_is office.NoTable e = absurd (cc)
memory_is office.KeeperFault e = absurd (cc)
memory_is office.Memory e = refl

pub no_failure : (reply : Reply) → reply ≢ office.KeeperFault → HasNoFailure (office_reply reply)
no_failure (office.Accepted seq cells) not = refl
no_failure (office.Repeated seq) not = refl
no_failure (office.Refused rule) not = refl
no_failure (office.Table text) not = refl
no_failure office.NoTable not = refl
no_failure office.KeeperFault not = absurd (not refl)
no_failure office.Memory not = tt

module _ (s : DeskState) where
  abbrev with_office : State → DeskState
  with_office o = record { office = o; versions = s.versions }

  pub submission_answered : (answer : Answer) (reply : Reply) (new : State) → OfficeAnswers answer reply s.office new → reply ≢ office.KeeperFault → Answers (from_office s answer) (office_reply reply) s (with_office new)
  submission_answered answer office.Memory new same not = ap with_office same
  submission_answered answer office.KeeperFault new same not = absurd (not refl)
  submission_answered answer (office.Accepted seq cells) new h not = (ap Office h.0, ap with_office h.1)
  submission_answered answer (office.Repeated seq) new h not = (ap Office h.0, ap with_office h.1)
  submission_answered answer (office.Refused rule) new h not = (ap Office h.0, ap with_office h.1)
  submission_answered answer (office.Table text) new h not = (ap Office h.0, ap with_office h.1)
  submission_answered answer office.NoTable new h not = (ap Office h.0, ap with_office h.1)

  -- a request for a table is answered by the office
  module _ (table : List ℕ) (year : ℕ) where
    abbrev due : Reply
    due = requested s.office table year

    not_kept : (reply : Reply) → OfficeShows due reply → reply ≢ office.KeeperFault
    not_kept office.KeeperFault h e = let none = requested_answers s.office table year in absurd (cc (h, none))
    not_kept (office.Accepted seq cells) h e = cc
    not_kept (office.Repeated seq) h e = cc
    not_kept (office.Refused rule) h e = cc
    not_kept (office.Table text) h e = cc
    not_kept office.NoTable h e = cc
    not_kept office.Memory h e = cc

    pub shown_no_failure : (reply : Reply) → OfficeShows due reply → HasNoFailure (office_reply reply)
    shown_no_failure reply h = no_failure reply (not_kept reply h)

    pub shown_answered : (reply : Reply) → OfficeShows due reply → Answers (unchanged s (Office due)) (office_reply reply) s s
    shown_answered office.Memory h = refl
    shown_answered office.KeeperFault h = absurd (not_kept office.KeeperFault h refl)
    shown_answered (office.Accepted seq cells) h = (ap Office h, refl)
    shown_answered (office.Repeated seq) h = (ap Office h, refl)
    shown_answered (office.Refused rule) h = (ap Office h, refl)
    shown_answered (office.Table text) h = (ap Office h, refl)
    shown_answered office.NoTable h = (ap Office h, refl)

  -- ---- the version of a name
  module _ (vs : List KeptVersion) (is : map version_of vs ≡ s.versions) (name : List ℕ) where
    abbrev sought : Option KeptVersion
    sought = find (λ v. bytes_eq v.name name) vs

    seq_is : seq_of name s.versions ≡ option_map (λ v. v.seq) sought
    seq_is = ap (seq_of name) (sym is) ∙ seq_named name vs

    pub none_named : sought ≡ None → seq_of name s.versions ≡ None
    none_named none = seq_is ∙ ap (option_map (λ v. v.seq)) none

    pub one_named : (v : KeptVersion) → sought ≡ Some v → seq_of name s.versions ≡ Some v.seq
    one_named v there = seq_is ∙ ap (option_map (λ v. v.seq)) there

  -- ---- a name is frozen

  is_named : (name new : List ℕ) → name_in name ≡ Some new → frozen s name ≡ frozen_once s new (seq_of new s.versions)
  unfolding frozen
  is_named name new some = by (is_name name) some
    where
      by : (b : Bool) → (if b then Some name else None) ≡ Some new → (if b then frozen_once s name (seq_of name s.versions) else unchanged s BadVersion) ≡ frozen_once s new (seq_of new s.versions)
      by true e = let same : name ≡ new = cc in ap (λ n. frozen_once s n (seq_of n s.versions)) same
      by false e = absurd (cc)

  -- ---- a version beside what holds now

  pub not_frozen : (name : List ℕ) (year : ℕ) → seq_of name s.versions ≡ None → recalculated s name year ≡ NoTable
  unfolding recalculated
  not_frozen name year none = ap (compared_with s year) none

  pub is_frozen : (name : List ℕ) (year : ℕ) (v : KeptVersion) → seq_of name s.versions ≡ Some v.seq → IsKept s.office.accepted v
      → recalculated s name year ≡ compared (column_at v.report year) (values_at s.office.content year)
  unfolding recalculated
  is_frozen name year v there kept = ap (compared_with s year) there ∙ ap (λ o. compared o (values_at s.office.content year)) (sym (kept.report.each year))

pub with_text : (reported : List PairValue) (now : Option (List PairValue)) (text : List ℕ) → Some text ≡ option_map (recalculation reported) now → Table text ≡ compared (Some reported) now
with_text reported None text e = absurd (cc)
with_text reported (Some now) text e = let same : text ≡ recalculation reported now = cc in ap Table same

pub without_text : (reported : List PairValue) (now : Option (List PairValue)) → None ≡ option_map (recalculation reported) now → NoTable ≡ compared (Some reported) now
without_text reported None e = refl
without_text reported (Some now) e = absurd (cc)

pub table_takes : (reported : List PairValue) (now : Option (List PairValue)) → is_some now ≡ true → takes_memory (compared (Some reported) now) ≡ true
table_takes reported None e = absurd (cc)
table_takes reported (Some now) e = refl

-- ---- what a desk keeps, and the state that contracts see

module _ (o : State) (vs : List KeptVersion) (s : DeskState) (is : record { office = o; versions = map version_of vs } ≡ s) (name : List ℕ) where
  abbrev sought_in : Option KeptVersion
  sought_in = find (λ v. bytes_eq v.name name) vs

  versions_are : map version_of vs ≡ s.versions
  versions_are = ap (λ (d : DeskState). d.versions) is

  not_named : None ≡ sought_in → seq_of name s.versions ≡ None
  not_named e = none_named s vs versions_are name (sym e)

  has_name : (v : KeptVersion) → Some v ≡ sought_in → seq_of name s.versions ≡ Some v.seq
  has_name v e = one_named s vs versions_are name v (sym e)

  pub versions_count : length s.versions ≡ length vs
  versions_count = ap length (sym versions_are) ∙ length-map vs version_of

  -- what a text that is the name is answered, where the name is not frozen, and where it is
  pub frozen_first : (text : List ℕ) → Some name ≡ name_in text → None ≡ sought_in → frozen s text ≡ frozen_once s name None
  frozen_first text is_text e = is_named s text name (sym is_text) ∙ ap (frozen_once s name) (not_named e)

  pub frozen_again : (text : List ℕ) (v : KeptVersion) → Some name ≡ name_in text → Some v ≡ sought_in
      → frozen s text ≡ frozen_once s name (Some v.seq)
  frozen_again text v is_text e = is_named s text name (sym is_text) ∙ ap (frozen_once s name) (has_name v e)

  pub not_reported : (year : ℕ) → None ≡ sought_in → NoTable ≡ recalculated s name year
  not_reported year e = sym (not_frozen s name year (not_named e))

  pub reported_at : (year : ℕ) (v : KeptVersion) → All (IsKept o.accepted) vs → Some v ≡ sought_in
      → recalculated s name year ≡ compared (column_at v.report year) (values_at o.content year)
  reported_at year v all e =
      let kept = found (IsKept o.accepted) (λ v. bytes_eq v.name name) vs v (sym e) all in
      let same = ap (λ (d : DeskState). d.office) is in
      is_frozen s name year v (has_name v e) (subst (λ t. IsKept t.accepted v) same kept)
      ∙ ap (λ t. compared (column_at v.report year) (values_at t.content year)) (sym same)

-- ---- a name that may be frozen

-- the answer where it is frozen anew
abbrev pub newly : DeskState → List ℕ → DeskAnswer
newly s name = record {
  reply = Frozen (present s);
  after = record { office = s.office; versions = s.versions ++ record { name = name; seq = present s } ∷ [] };
}

module _ (s : DeskState) (name : List ℕ) where
  pub frozen_now : (n : ℕ) → n ≡ present s → frozen_once s name (Some n) ≡ unchanged s (Frozen n)
  frozen_now n e = by (n == present s) (eq-eqb n (present s) e)
    where
      by : (b : Bool) → b ≡ true → unchanged s (if b then Frozen n else VersionExists n) ≡ unchanged s (Frozen n)
      by true e = refl
      by false e = absurd (cc)

  pub frozen_before : (n : ℕ) → n ≢ present s → frozen_once s name (Some n) ≡ unchanged s (VersionExists n)
  frozen_before n e = by (n == present s) refl
    where
      by : (b : Bool) → (n == present s) ≡ b → unchanged s (if b then Frozen n else VersionExists n) ≡ unchanged s (VersionExists n)
      by true f = absurd (e (eqb-true n (present s) f))
      by false f = refl

  pub too_many : most_versions ≤ length s.versions → frozen_once s name None ≡ unchanged s TooManyVersions
  too_many h = by (nat_le most_versions (length s.versions)) refl
    where
      by : (b : Bool) → nat_le most_versions (length s.versions) ≡ b → (if b then unchanged s TooManyVersions else newly s name) ≡ unchanged s TooManyVersions
      by true e = refl
      by false e = absurd (grind (arith, e, h))

  pub has_room : length s.versions < most_versions → frozen_once s name None ≡ newly s name
  has_room h = by (nat_le most_versions (length s.versions)) refl
    where
      by : (b : Bool) → nat_le most_versions (length s.versions) ≡ b → (if b then unchanged s TooManyVersions else newly s name) ≡ newly s name
      by true e = absurd (grind (arith, e, h))
      by false e = refl
