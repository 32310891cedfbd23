-- Each path of the two forms finds its route, and no other path finds one.
use Rattle.std.proofs.Common.{◌≡◌, ℕ, Bool, true, false, cond, ◌+◌, ◌-◌, ◌<◌, List, [], ◌∷◌, ◌++◌, length, drop, Option, Some, None, refl, sym, ap, ap₂, subst, ◌∙◌, codes, arith, eqb-true, suc, append_assoc}
use Rattle.std.specs.Prelude.{◌==◌, ◌&&◌, not, nat_lt, option_and_then}
use Rattle.std.specs.List.{list_all, prefix_len}
use Rattle.std.proofs.lemmas.Bool.{and_parts}
use Rattle.std.proofs.lemmas.Bool.Decides.{nat_tests}
use Rattle.std.proofs.lemmas.List.Folds.{list_all-append}
use Rattle.std.specs.Cmp.Lexicographic.{pointwise}
use Rattle.std.specs.Prelude.{nat_eq}
use Rattle.matchit.specs.Rows.{RowsOf}
use Rattle.matchit.specs.Router.{RouteOf}
use Rattle.matchit.specs.Seek.{cuts, first, has_slash, longest_suffix, param_step, seek, segment, step, with_suffix}
use Rattle.matchit.proofs.OnLiterals.{matchit_on_literals}
use Rattle.ghg_http.specs.declared.route.Route.{Route}
use Rattle.ghg_http.specs.Laws.{FindsTargets, IsPathOf, is_segment, is_segment_byte}
use Rattle.ghg_http.specs.Route.{Target, parts_of, path_of, routes, submission, table, target_of}
use Rattle.ghg_http.proofs.Paths.{at_byte, at_end, at_literal, at_next, at_parameter, literals, no_parameter, no_slash, nothing, parts_at, segment_before, skipped}

-- ---- from a form to what it finds

submission_found : (path id : List ℕ) → path ≡ codes "/submissions/" ++ id → is_segment id ≡ true
    → target_of path ≡ Some (submission id)
unfolding target_of matchit_on_literals routes
submission_found path [] is s = absurd (cc)
submission_found path (b ∷ id) is s =
    let bytes : list_all is_segment_byte (b ∷ id) ≡ true = grind (arith, s) in
    let small : nat_lt b 256 ≡ true = grind (arith, nat_tests, bytes) in
    let whole : List ℕ = codes "/submissions/" ++ (b ∷ id) in
    let found = at_literal routes 47 (drop 1 whole) refl refl ∙ at_literal (step 47 routes) 115 (drop 2 whole) refl refl
    ∙ literals (codes "ubmissions/") (256 ∷ []) _ (b ∷ id) refl ∙ at_end b _ id small (no_slash (b ∷ id) bytes) in
    ap target_of is ∙ ap (option_and_then (λ route. parts_of route.value whole)) found

table_found : (path name year : List ℕ) → path ≡ codes "/tables/" ++ (name ++ (codes "/" ++ year)) → is_segment name ≡ true
    → is_segment year ≡ true → target_of path ≡ Some (table name year)
unfolding target_of matchit_on_literals routes
table_found path [] year is n y = absurd (cc)
table_found path (a ∷ name) [] is n y = absurd (cc)
table_found path (a ∷ name) (b ∷ year) is n y =
    let name_bytes : list_all is_segment_byte (a ∷ name) ≡ true = grind (arith, n) in
    let year_bytes : list_all is_segment_byte (b ∷ year) ≡ true = grind (arith, y) in
    let small : nat_lt a 256 ≡ true = grind (arith, nat_tests, name_bytes) in
    let small_year : nat_lt b 256 ≡ true = grind (arith, nat_tests, year_bytes) in
    let parts : List ℕ = (a ∷ name) ++ 47 ∷ b ∷ year in
    let whole : List ℕ = codes "/tables/" ++ parts in
    let found = at_literal routes 47 (drop 1 whole) refl refl ∙ at_literal (step 47 routes) 116 (drop 2 whole) refl refl
    ∙ literals (codes "ables/") (256 ∷ 47 ∷ 256 ∷ []) _ parts refl
    ∙ at_next a (256 ∷ []) _ name (b ∷ year) small (segment_before (a ∷ name) (b ∷ year) (no_slash (a ∷ name) name_bytes))
    ∙ at_end b _ year small_year (no_slash (b ∷ year) year_bytes) in
    ap target_of is ∙ ap (option_and_then (λ route. parts_of route.value whole)) found
    ∙ parts_at (a ∷ name) (b ∷ year) name_bytes

form_found : (path : List ℕ) (found : Target) → IsPathOf found path → target_of path ≡ Some found
form_found path (submission id) h = submission_found path id h.0 h.1
form_found path (table name year) h = table_found path name year h.0 h.1 h.2

-- ---- a walk over one row, backwards

whole_segment : (xs : List ℕ) → has_slash xs ≡ false → segment xs ≡ xs
whole_segment [] e = refl
whole_segment (x ∷ xs) e = by (x == 47) refl (whole_segment xs)
  where
    by : (same : Bool) → (x == 47) ≡ same → (has_slash xs ≡ false → segment xs ≡ xs) → segment (x ∷ xs) ≡ x ∷ xs
    by true s others = let slash = rw s at e in absurd cc
    by false s others =
        let plain : has_slash xs ≡ false = rw s at e in
        rw s (ap (λ (t : List ℕ). x ∷ t) (others plain))

-- a text without a slash does not end with one
no_last : (x : ℕ) (xs : List ℕ) → has_slash (x ∷ xs) ≡ false → pointwise nat_eq (47 ∷ []) (drop (length xs) (x ∷ xs)) ≡ false
no_last x [] e = by (x == 47) refl
  where
    by : (same : Bool) → (x == 47) ≡ same → pointwise nat_eq (47 ∷ []) (x ∷ []) ≡ false
    by true s = let slash = rw s at e in absurd cc
    by false s = let other : nat_eq 47 x ≡ false = grind (arith, nat_tests, s) in rw other refl
no_last x (y ∷ xs) e = by (x == 47) refl (no_last y xs)
  where
    by : (same : Bool) → (x == 47) ≡ same
        → (has_slash (y ∷ xs) ≡ false → pointwise nat_eq (47 ∷ []) (drop (length xs) (y ∷ xs)) ≡ false)
        → pointwise nat_eq (47 ∷ []) (drop (length (y ∷ xs)) (x ∷ y ∷ xs)) ≡ false
    by true s others = let slash = rw s at e in absurd cc
    by false s others = let plain : has_slash (y ∷ xs) ≡ false = rw s at e in others plain

no_cut : (x : ℕ) (xs : List ℕ) → has_slash (x ∷ xs) ≡ false → cuts (x ∷ xs) (47 ∷ []) ≡ false
no_cut x xs e =
    let at : length (x ∷ xs) - 1 ≡ length xs = omega arith in
    rw (at, no_last x xs e) (by (nat_lt 1 (length (x ∷ xs))))
  where
    by : (longer : Bool) → (longer && false) ≡ false
    by true = refl
    by false = refl

record Split (path : List ℕ) : Type 0 where
  before : List ℕ
  after : List ℕ
  whole : path ≡ before ++ 47 ∷ after
  plain : has_slash before ≡ false

-- a path with a slash is split at the first one
split_slash : (path : List ℕ) → has_slash path ≡ true → Split path
split_slash [] e = absurd cc
split_slash (x ∷ path) e = by (x == 47) refl (split_slash path)
  where
    by : (same : Bool) → (x == 47) ≡ same → (has_slash path ≡ true → Split path) → Split (x ∷ path)
    by true s others = record { before = []; after = path; whole = ap (λ (c : ℕ). c ∷ path) (eqb-true x 47 s); plain = refl }
    by false s others =
        let slash : has_slash path ≡ true = rw s at e in
        let later = others slash in
        record { before = x ∷ later.before; after = later.after; whole = ap (λ (t : List ℕ). x ∷ t) later.whole; plain = rw s later.plain }

-- what a parameter takes: some bytes, none of them a slash
record IsTaken (path : List ℕ) : Type 0 where
  some : 0 < length path
  plain : has_slash path ≡ false

module _ {K : Type 0} where
  -- a row finds this key at the path that is left behind a text
  record Behind (w t : List ℕ) (key k : K) (path : List ℕ) : Type 0 where
    rest : List ℕ
    whole : path ≡ w ++ rest
    finds : seek 0 ((t, key) ∷ []) rest ≡ Some k

  other_byte : (x b : ℕ) (t : List ℕ) (key : K) (path : List ℕ) → nat_lt x 256 ≡ true → (x == b) ≡ false
      → seek 0 ((x ∷ t, key) ∷ []) (b ∷ path) ≡ None
  unfolding seek
  other_byte x b t key path small e =
      let no_parameter_token : (x == 256) ≡ false = grind (arith, nat_tests, small) in
      let no_rest_token : (x == 257) ≡ false = grind (arith, nat_tests, small) in
      rw (e, no_parameter_token, no_rest_token, no_parameter {K = K} b path, nothing {K = K} 0 path) refl

  -- where a row that begins with literals finds a key, the path begins with them
  behind_literals : (w t : List ℕ) (key k : K) (path : List ℕ) → list_all (λ x. nat_lt x 256) w ≡ true
      → seek 0 ((w ++ t, key) ∷ []) path ≡ Some k → Behind w t key k path
  unfolding seek
  behind_literals [] t key k path e h = record { rest = path; whole = refl; finds = h }
  behind_literals (x ∷ w) t key k [] e h = absurd cc
  behind_literals (x ∷ w) t key k (b ∷ path) e h = by (x == b) refl (behind_literals w t key k path)
    where
      by : (same : Bool) → (x == b) ≡ same
          → (list_all (λ x. nat_lt x 256) w ≡ true → seek 0 ((w ++ t, key) ∷ []) path ≡ Some k → Behind w t key k path)
          → Behind (x ∷ w) t key k (b ∷ path)
      by true s more =
          let small : nat_lt x 256 ≡ true = grind (arith, e) in
          let others : list_all (λ x. nat_lt x 256) w ≡ true = grind (arith, e) in
          let is : x ≡ b = eqb-true x b s in
          let later = more others
          (sym (at_byte x (w ++ t) key path small) ∙ ap (λ (c : ℕ). seek 0 ((x ∷ (w ++ t), key) ∷ []) (c ∷ path)) is ∙ h) in
          record { rest = later.rest; whole = ap₂ (λ (c : ℕ) (l : List ℕ). c ∷ l) (sym is) later.whole; finds = later.finds }
      by false s more =
          let small : nat_lt x 256 ≡ true = grind (arith, e) in
          let never = sym (other_byte x b (w ++ t) key path small s) ∙ h in absurd cc

  slash_step : (b : ℕ) (key : K) (path : List ℕ) → has_slash (b ∷ path) ≡ true → param_step (([], key) ∷ []) (b ∷ path) ≡ (0, [])
  unfolding param_step
  slash_step b key path e =
      ap (λ (slash : Bool). cond {A = ℕ × RowsOf K} slash (0, []) (length (b ∷ path), ([], key) ∷ [])) e

  ends_there : (key k : K) (path : List ℕ) → list_all (λ x. nat_lt x 256) path ≡ true
      → seek 0 ((256 ∷ [], key) ∷ []) path ≡ Some k → IsTaken path
  unfolding seek
  ends_there key k [] e h = absurd cc
  ends_there key k (b ∷ path) e h = by (has_slash (b ∷ path)) refl
    where
      by : (slash : Bool) → has_slash (b ∷ path) ≡ slash → IsTaken (b ∷ path)
      by false s = record { some = omega arith; plain = s }
      by true s =
          let small : nat_lt b 256 ≡ true = grind (arith, e) in
          let none = at_parameter b [] key path small
          ∙ ap (λ (p : ℕ × RowsOf K). seek (p.0 - 1) p.1 path) (slash_step b key path s) ∙ nothing {K = K} (0 - 1) path in
          let never = sym none ∙ h in absurd cc

  -- any other takes some bytes up to the next slash, and the row finds the key at the rest
  record GoesOn (t : List ℕ) (key k : K) (path : List ℕ) : Type 0 where
    part : List ℕ
    rest : List ℕ
    whole : path ≡ part ++ 47 ∷ rest
    last : IsTaken part
    finds : seek 0 ((t, key) ∷ []) rest ≡ Some k

  no_suffix : (seg t : List ℕ) (key : K) → cuts seg (47 ∷ []) ≡ false → longest_suffix seg ((47 ∷ t, key) ∷ []) ≡ []
  no_suffix seg t key e = rw e refl

  plain_step : (b : ℕ) (t : List ℕ) (key : K) (path : List ℕ) → has_slash (b ∷ path) ≡ false
      → param_step ((47 ∷ t, key) ∷ []) (b ∷ path) ≡ (length (b ∷ path), (47 ∷ t, key) ∷ [])
  unfolding param_step
  plain_step b t key path e =
      let rs : RowsOf K = (47 ∷ t, key) ∷ [] in
      let all : List ℕ = b ∷ path in
      let cut : List ℕ → ℕ × RowsOf K = λ suffix.
      cond {A = ℕ × RowsOf K} (nat_lt 0 (length suffix)) (length (segment all) - length suffix, with_suffix suffix rs)
      (cond {A = ℕ × RowsOf K} (has_slash all) (0, []) (length all, rs)) in
      ap cut (no_suffix (segment all) t key (ap (λ (seg : List ℕ). cuts seg (47 ∷ [])) (whole_segment all e) ∙ no_cut b path e))
      ∙ ap (λ (slash : Bool). cond {A = ℕ × RowsOf K} slash (0, []) (length all, rs)) e

  first_step : (t : List ℕ) (key : K) (path : List ℕ) → param_step ((47 ∷ t, key) ∷ []) (47 ∷ path) ≡ (0, [])
  unfolding param_step
  first_step t key path = refl

  goes_on : (t : List ℕ) (key k : K) (path : List ℕ) → list_all (λ x. nat_lt x 256) path ≡ true
      → seek 0 ((256 ∷ 47 ∷ t, key) ∷ []) path ≡ Some k → GoesOn t key k path
  unfolding seek
  goes_on t key k [] e h = absurd cc
  goes_on t key k (b ∷ path) e h = by (has_slash (b ∷ path)) refl
    where
      split : (parts : Split (b ∷ path)) (before : List ℕ) → parts.before ≡ before → GoesOn t key k (b ∷ path)
      split parts [] is =
          let whole : b ∷ path ≡ 47 ∷ parts.after = parts.whole ∙ ap (λ (xs : List ℕ). xs ++ 47 ∷ parts.after) is in
          let none = at_parameter 47 (47 ∷ t) key parts.after refl
          ∙ ap (λ (p : ℕ × RowsOf K). seek (p.0 - 1) p.1 parts.after) (first_step t key parts.after) ∙ nothing {K = K} (0 - 1) parts.after in
          let never = sym none ∙ ap (seek 0 ((256 ∷ 47 ∷ t, key) ∷ [])) (sym whole) ∙ h in absurd cc
      split parts (a ∷ xs) is =
          let whole : b ∷ path ≡ (a ∷ xs) ++ 47 ∷ parts.after = parts.whole ∙ ap (λ (xs : List ℕ). xs ++ 47 ∷ parts.after) is in
          let bytes : list_all (λ x. nat_lt x 256) ((a ∷ xs) ++ 47 ∷ parts.after) ≡ true = ap (list_all (λ x. nat_lt x 256)) (sym whole) ∙ e in
          let small : nat_lt a 256 ≡ true = grind (arith, bytes) in
          let plain : has_slash (a ∷ xs) ≡ false = ap has_slash (sym is) ∙ parts.plain in
          record {
            part = a ∷ xs;
            rest = parts.after;
            whole = whole;
            last = record { some = omega arith; plain = plain };
            finds = sym (at_next a t key xs parts.after small (segment_before (a ∷ xs) parts.after plain))
                ∙ ap (seek 0 ((256 ∷ 47 ∷ t, key) ∷ [])) (sym whole) ∙ h;
          }

      by : (slash : Bool) → has_slash (b ∷ path) ≡ slash → GoesOn t key k (b ∷ path)
      by true s = let parts = split_slash (b ∷ path) s in split parts parts.before refl
      by false s =
          let small : nat_lt b 256 ≡ true = grind (arith, e) in
          let none = at_parameter b (47 ∷ t) key path small
          ∙ ap (λ (p : ℕ × RowsOf K). seek (p.0 - 1) p.1 path) (plain_step b t key path s)
          ∙ ap (λ (n : ℕ). seek n ((47 ∷ t, key) ∷ []) path) (omega arith)
          ∙ skipped ((47 ∷ t, key) ∷ []) path in
          let never = sym none ∙ h in absurd cc

-- ---- the forms of paths that find a route

-- the bytes of a path, which has no question mark
abbrev is_path_byte : ℕ → Bool
is_path_byte b = nat_lt b 256 && not (b == 63)

small_bytes : (xs : List ℕ) → list_all is_path_byte xs ≡ true → list_all (λ x. nat_lt x 256) xs ≡ true
small_bytes [] e = refl
small_bytes (x ∷ xs) e =
    let both = and_parts (is_path_byte x) (list_all is_path_byte xs) e in
    let small = and_parts (nat_lt x 256) (not (x == 63)) both.0 in
    rw small.0 (small_bytes xs both.1)

segment_bytes : (xs : List ℕ) → list_all is_path_byte xs ≡ true → has_slash xs ≡ false → list_all is_segment_byte xs ≡ true
segment_bytes [] e s = refl
segment_bytes (x ∷ xs) e s = by (x == 47) refl (segment_bytes xs)
  where
    by : (same : Bool) → (x == 47) ≡ same
        → (list_all is_path_byte xs ≡ true → has_slash xs ≡ false → list_all is_segment_byte xs ≡ true)
        → list_all is_segment_byte (x ∷ xs) ≡ true
    by true q others = let slash = rw q at s in absurd cc
    by false q others =
        let plain : has_slash xs ≡ false = rw q at s in
        let both = and_parts (is_path_byte x) (list_all is_path_byte xs) e in
        let parts = and_parts (nat_lt x 256) (not (x == 63)) both.0 in
        rw (parts.0, q, parts.1) (others both.1 plain)

one_segment : (xs : List ℕ) → list_all is_path_byte xs ≡ true → IsTaken xs → is_segment xs ≡ true
one_segment xs e last =
    let bytes = segment_bytes xs e last.plain in
    let some : nat_lt 0 (length xs) ≡ true = grind (arith, nat_tests, last.some) in
    rw (some, bytes) refl

bytes_behind : (xs ys : List ℕ) → list_all is_path_byte (xs ++ ys) ≡ true
    → (list_all is_path_byte xs ≡ true) × (list_all is_path_byte ys ≡ true)
bytes_behind xs ys e =
    and_parts (list_all is_path_byte xs) (list_all is_path_byte ys) (sym (list_all-append is_path_byte xs ys) ∙ e)

record Form (path : List ℕ) : Type 0 where
  found : Target
  is : IsPathOf found path

submission_form : (path rest : List ℕ) → path ≡ codes "/submissions/" ++ rest → list_all is_path_byte path ≡ true
    → IsTaken rest → Form path
submission_form path rest whole e last =
    let bytes = (bytes_behind (codes "/submissions/") rest (ap (list_all is_path_byte) (sym whole) ∙ e)).1 in
    record { found = submission rest; is = (whole, one_segment rest bytes last) }

table_form : (path name year : List ℕ) → path ≡ codes "/tables/" ++ (name ++ 47 ∷ year) → list_all is_path_byte path ≡ true
    → IsTaken name → IsTaken year → Form path
table_form path name year whole e n y =
    let bytes = (bytes_behind (codes "/tables/") (name ++ 47 ∷ year) (ap (list_all is_path_byte) (sym whole) ∙ e)).1 in
    let parts = bytes_behind name (47 ∷ year) bytes in
    let year_bytes = (bytes_behind (47 ∷ []) year parts.1).1 in
    record { found = table name year; is = (whole, one_segment name parts.0 n, one_segment year year_bytes y) }

behind_small : (xs ys : List ℕ) → list_all is_path_byte (xs ++ ys) ≡ true → list_all (λ x. nat_lt x 256) ys ≡ true
behind_small xs ys e = small_bytes ys (bytes_behind xs ys e).1

module _ (k : RouteOf Route) where
  at_submissions : (path : List ℕ) → list_all is_path_byte (47 ∷ 115 ∷ path) ≡ true
      → seek 0 (step 115 (step 47 routes)) path ≡ Some k → Form (47 ∷ 115 ∷ path)
  unfolding matchit_on_literals routes
  at_submissions path e h =
      let behind = behind_literals (codes "ubmissions/") (256 ∷ []) _ k path refl h in
      let whole : 47 ∷ 115 ∷ path ≡ codes "/submissions/" ++ behind.rest = ap (λ (t : List ℕ). 47 ∷ 115 ∷ t) behind.whole in
      let small = behind_small (codes "/submissions/") behind.rest (ap (list_all is_path_byte) (sym whole) ∙ e) in
      submission_form (47 ∷ 115 ∷ path) behind.rest whole e (ends_there _ k behind.rest small behind.finds)

  at_tables : (path : List ℕ) → list_all is_path_byte (47 ∷ 116 ∷ path) ≡ true
      → seek 0 (step 116 (step 47 routes)) path ≡ Some k → Form (47 ∷ 116 ∷ path)
  unfolding matchit_on_literals routes
  at_tables path e h =
      let behind = behind_literals (codes "ables/") (256 ∷ 47 ∷ 256 ∷ []) _ k path refl h in
      let whole : 47 ∷ 116 ∷ path ≡ codes "/tables/" ++ behind.rest = ap (λ (t : List ℕ). 47 ∷ 116 ∷ t) behind.whole in
      let bytes = (bytes_behind (codes "/tables/") behind.rest (ap (list_all is_path_byte) (sym whole) ∙ e)).1 in
      let name = goes_on (256 ∷ []) _ k behind.rest (small_bytes behind.rest bytes) behind.finds in
      let split : list_all is_path_byte ((name.part ++ 47 ∷ []) ++ name.rest) ≡ true =
      ap (list_all is_path_byte) (append_assoc name.part (47 ∷ []) name.rest ∙ sym name.whole) ∙ bytes in
      let year = ends_there _ k name.rest (behind_small (name.part ++ 47 ∷ []) name.rest split) name.finds in
      table_form (47 ∷ 116 ∷ path) name.part name.rest (whole ∙ ap (λ (t : List ℕ). codes "/tables/" ++ t) name.whole) e
      name.last year

  -- the second byte of the path is that of one of the routes
  at_second : (path : List ℕ) → list_all is_path_byte (47 ∷ path) ≡ true → seek 0 (step 47 routes) path ≡ Some k → Form (47 ∷ path)
  unfolding matchit_on_literals routes
  at_second [] e h = absurd cc
  at_second (b ∷ path) e h = by (115 == b) (116 == b) refl refl
    where
      inner : seek 0 (step b (step 47 routes)) path ≡ Some k
      inner = sym (at_literal (step 47 routes) b path refl refl) ∙ h

      by : (s t : Bool) → (115 == b) ≡ s → (116 == b) ≡ t → Form (47 ∷ b ∷ path)
      by true t p q =
          let is : 115 ≡ b = eqb-true 115 b p in
          subst (λ (c : ℕ). Form (47 ∷ c ∷ path)) is
          (at_submissions path (ap (λ (c : ℕ). list_all is_path_byte (47 ∷ c ∷ path)) is ∙ e)
          (ap (λ (c : ℕ). seek 0 (step c (step 47 routes)) path) is ∙ inner))
      by false true p q =
          let is : 116 ≡ b = eqb-true 116 b q in
          subst (λ (c : ℕ). Form (47 ∷ c ∷ path)) is
          (at_tables path (ap (λ (c : ℕ). list_all is_path_byte (47 ∷ c ∷ path)) is ∙ e)
          (ap (λ (c : ℕ). seek 0 (step c (step 47 routes)) path) is ∙ inner))
      by false false p q =
          let none : seek 0 (step b (step 47 routes)) path ≡ None = rw (p, q) (nothing 0 path) in
          let never = sym none ∙ inner in absurd cc

  -- and the first is a slash
  form_of : (path : List ℕ) → list_all is_path_byte path ≡ true → first routes path ≡ Some k → Form path
  unfolding matchit_on_literals routes
  form_of [] e h = absurd cc
  form_of (b ∷ path) e h = by (47 == b) refl
    where
      inner : seek 0 (step b routes) path ≡ Some k
      inner = sym (at_literal routes b path refl refl) ∙ h

      by : (s : Bool) → (47 == b) ≡ s → Form (b ∷ path)
      by true p =
          let is : 47 ≡ b = eqb-true 47 b p in
          subst (λ (c : ℕ). Form (c ∷ path)) is
          (at_second path (ap (λ (c : ℕ). list_all is_path_byte (c ∷ path)) is ∙ e)
          (ap (λ (c : ℕ). seek 0 (step c routes) path) is ∙ inner))
      by false p =
          let none : seek 0 (step b routes) path ≡ None = rw p (nothing 0 path) in
          let never = sym none ∙ inner in absurd cc

-- ---- targets

-- a path has no question mark
path_bytes : (text : List ℕ) → list_all (λ b. nat_lt b 256) text ≡ true → list_all is_path_byte (path_of text) ≡ true
path_bytes [] e = refl
path_bytes (b ∷ text) e = by (b == 63) refl (path_bytes text)
  where
    by : (same : Bool) → (b == 63) ≡ same
        → (list_all (λ c. nat_lt c 256) text ≡ true → list_all is_path_byte (path_of text) ≡ true)
        → list_all is_path_byte (path_of (b ∷ text)) ≡ true
    by true s others = rw s refl
    by false s others =
        let both = and_parts (nat_lt b 256) (list_all (λ b. nat_lt b 256) text) e in
        let next : 1 + prefix_len (λ c. not (c == 63)) text ≡ suc (prefix_len (λ c. not (c == 63)) text) = omega arith in
        rw (s, next, both.0, s) (others both.1)

found_form : (path : List ℕ) (found : Target) → list_all is_path_byte path ≡ true → target_of path ≡ Some found → IsPathOf found path
unfolding target_of
found_form path found e h = by (first routes path) refl
  where
    by : (route : Option (RouteOf Route)) → first routes path ≡ route → IsPathOf found path
    by None r = let none = rw r at h in absurd cc
    by (Some k) r =
        let form = form_of k path e r in
        let both = sym (form_found path form.found form.is) ∙ h in
        let same : form.found ≡ found = cc in
        subst (λ (t : Target). IsPathOf t path) same form.is

pub targets_found : FindsTargets
targets_found text found e = (found_form (path_of text) found (path_bytes text e), form_found (path_of text) found)
