-- What a SELECT on one table means, whatever other tables the schema has.
use Rattle.std.proofs.Common.{◌≡◌, ℕ, List, [], ◌∷◌, ◌++◌, length, map, Bool, true, false, not, ◌==◌, Option, Some, None, Ok, codes, pos, negsuc, slice_get, refl, nat_lt, ◌-◌, ap, ◌∙◌}
use Rattle.sqlite_schema.specs.Names.{same_name, table_named, column_named, place_of}
use Rattle.sqlite.specs.Table.{Table}
use Rattle.sqlite.specs.Schema.{Schema}
use Rattle.sqlite_schema.specs.declared.schema.Column.{Column as Declared}
use Rattle.sqlite.specs.Term.{Term, lit, col, op2}
use Rattle.sqlite.specs.declared.types.Value.TheVariants.{Int, Null}
use Rattle.sqlite_ast.specs.declared.Core.{Core, out-Core}
use Rattle.sqlite_ast.specs.declared.Select.{Select, out-Select}
use Rattle.sqlite_ast.specs.declared.Source.{Source, out-Source}
use Rattle.sqlite_ast.specs.declared.Shown.{Shown, out-Shown}
use Rattle.sqlite_ast.specs.declared.Expr.{Expr, out-Expr}
use Rattle.sqlite_ast.specs.declared.Expr.TheOpen.{Expr-F, Shown-F}
use Rattle.sqlite_ast.specs.declared.Origin.TheVariants as origin
use Rattle.sqlite_draft.specs.declared.join.Step.TheVariants.{Inner}
use Rattle.sqlite_draft.specs.declared.query.Draft.{Draft}
use Rattle.sqlite_draft.specs.declared.query.Aggregate.{Aggregate}
use Rattle.sqlite_draft.specs.Query.{query_of}
use Rattle.sqlite_resolve.specs.declared.state.Carried.{Carried}
use Rattle.sqlite_ast.specs.declared.Binary.TheVariants as binary
use Rattle.sqlite_ast.specs.declared.Statement.TheVariants as written
use Rattle.sqlite_sql.specs.declared.aggregate.AggregateOp.TheVariants.{CountRows}
use Rattle.sqlite_sql.specs.declared.ops.BinaryOp.TheVariants.{Compare}
use Rattle.sqlite_sql.specs.declared.ops.CompareOp.TheVariants.{Eq}
use Rattle.sqlite.specs.Collation.TheVariants.{Binary}
use Rattle.sqlite_tied.specs.Compute.{everything}
use Rattle.sqlite_resolve.specs.Compile.{first}
use Rattle.sqlite.specs.Query.{Query, inner, end}
use Rattle.ghg_keeper.specs.Accepted.{accepted, second}
use Rattle.ghg_keeper.specs.Texts.{count_text, row_text, first_count_text, first_row_text}
use Rattle.ghg_keeper.proofs.Texts.{statement_in, formats_in}
use Rattle.sqlite_resolve.specs.declared.state.State.{State}
use Rattle.sqlite_resolve.specs.declared.scope.Bound.{Bound}
use Rattle.sqlite_resolve.specs.declared.scope.Output.{Output}
use Rattle.sqlite_resolve.specs.declared.scope.Level.{Level}
use Rattle.sqlite_resolve.specs.declared.scope.Found.TheVariants.{Column}
use Rattle.sqlite_resolve.specs.declared.body.Body.{Body}
use Rattle.sqlite_resolve.specs.declared.select.Clauses.{Clauses}
use Rattle.sqlite_resolve.specs.Lowering.{Lowering, fresh, max_budget, pending, nothing, take_slot, begin, finish, spend, aggregate, chosen, first_found}
use Rattle.sqlite_resolve.specs.Scope.{Name, Context, find, in_level, only, hit, column_in, is_among, term_of, column_at, column, declared}
use Rattle.sqlite_resolve.specs.Body.{table_in, bound, bounds, within, heading, is_column, tests, shown, outputs, shared, inner_join, join, joins, result, matching, body}
use Rattle.sqlite_resolve.specs.Order.{keys, sorts}
use Rattle.sqlite_resolve.specs.Terms.{number}
use Rattle.sqlite_resolve.specs.Expr.{lower, lower_to, node, opened, passes, star, function_named, count_rows, operation, both, wanted_truth, tests_truth, tests_alias, combine}
use Rattle.sqlite_resolve.specs.Compare.{compared, converted, affinity_of, of_column, may_be_text}
use Rattle.sqlite_resolve.specs.Select.{outermost, having, parts, assembled, named, paging, constant_or}
use Rattle.sqlite_resolve.specs.Program as program

abbrev Lower : Type 0
Lower = Context → Expr → Lowering Term

-- the table in its slot
abbrev in_slot : Name → ℕ → Bound
in_slot name at = record { name = name; table = at; slot = 1; shared = [] }

abbrev level : Name → ℕ → List Output → Level
level name at cols = record { tables = in_slot name at ∷ []; shown = cols }

-- FROM names one table
record Reads (src : Source) (name : Name) : Type 0 where
  origin : (out-Source src).origin ≡ origin.Table name
  inner : (out-Source src).is_left ≡ false
  alias : (out-Source src).alias ≡ None
  on : (out-Source src).on ≡ None
  using : (out-Source src).using ≡ []

bound_is : (schema : Schema) (at : ℕ) (name : Name) (src : Source) → Reads src name → table_named schema name ≡ Some at → bound schema src (fresh 1 max_budget) ≡ Ok (in_slot name at, fresh 2 max_budget)
unfolding bound table_in take_slot
bound_is schema at name src is there = rw (is.origin, there, is.alias, is.using) refl

tests_none : (low : Lower) (cx : Context) (done : List Term) (s : State) → tests low cx done None s ≡ Ok (done, s)
unfolding tests
tests_none low cx done s = refl

bounds_is : (schema : Schema) (at : ℕ) (name : Name) (src : Source) → Reads src name → table_named schema name ≡ Some at → bounds schema (src ∷ []) (fresh 1 max_budget) ≡ Ok (in_slot name at ∷ [], fresh 2 max_budget)
unfolding bounds
bounds_is schema at name src is there = rw (bound_is schema at name src is there) refl

join_is : (low : Lower) (cx : Context) (at : ℕ) (name : Name) (table : Table) (src : Source) (s : State) → Reads src name → slice_get cx.schema.tables at ≡ Some table
    → joins low cx (in_slot name at ∷ []) (src ∷ []) s ≡ Ok (record { steps = Inner table.tree ∷ []; filter = [] }, s)
unfolding joins join inner_join shared
join_is low cx at name table src s is there = rw (is.on, is.using, there, is.inner, tests_none low cx [] s) refl

body_is : (low : Lower) (schema : Schema) (core : Core) (src : Source) (at : ℕ) (name : Name) (table : Table) (cols : List Output) (terms : List Term) (s t : State) → (out-Core core).from ≡ src ∷ [] → Reads src name
    → table_named schema name ≡ Some at → slice_get schema.tables at ≡ Some table
    → outputs low (within (outermost schema) (level name at []) true) (in_slot name at ∷ []) (out-Core core).shown (fresh 2 max_budget) ≡ Ok (cols, s)
    → tests low (within (outermost schema) (level name at cols) false) [] (out-Core core).filter s ≡ Ok (terms, t)
    → body low (outermost schema) core (fresh 1 max_budget) ≡ Ok (record { level = level name at cols; steps = Inner table.tree ∷ []; filter = terms }, t)
unfolding body result matching
body_is low schema core src at name table cols terms s t from is found there shows filters =
    rw (from, bounds_is schema at name src is found, shows, join_is low (within (outermost schema) (level name at cols) false) at name table src s is there, filters) refl

parts_is : (schema : Schema) (core : Core) (whole : Body) (s : State) → (out-Core core).group ≡ [] → (out-Core core).having ≡ None → body lower (outermost schema) core (fresh 1 max_budget) ≡ Ok (whole, s)
    → parts schema core [] (fresh 1 max_budget) ≡ Ok (record { body = whole; is_grouped = not (length s.aggregates == 0); keys = []; collations = []; having = []; order = [] }, s)
unfolding parts keys sorts having
parts_is schema core whole s group none is = rw (is, group, none, tests_none) refl

abbrev page : Term × Term
page = (lit (Int (negsuc 0)), number 0)

named_is : (schema : Schema) (core : Core) (p : Clauses) (s : State) (d : Draft) → (out-Core core).distinct ≡ false → parts schema core [] (fresh 1 max_budget) ≡ Ok (p, s) → assembled false page.0 page.1 p s ≡ Ok d
    → named schema core [] page ≡ Ok (d, map (λ o. o.name) p.body.level.shown, map (λ o. o.carried.collation) p.body.level.shown)
unfolding named
named_is schema core p s d distinct is made = rw (is, distinct, made) refl

-- a query with nothing beside its first part
record IsPlainSelect (q : Select) : Type 0 where
  with : (out-Select q).with ≡ []
  others : (out-Select q).others ≡ []
  order : (out-Select q).order ≡ []
  limit : (out-Select q).limit ≡ None
  offset : (out-Select q).offset ≡ None

level_is : (query : Schema → Select → program.Building program.Shown) (schema : Schema) (q : Select) (src : Source) (name : Name) (out : program.Shown) → IsPlainSelect q → (out-Core (out-Select q).first).from ≡ src ∷ [] → Reads src name
    → named schema (out-Select q).first [] page ≡ Ok out → program.level query schema q [] ≡ Ok (out, [])
unfolding program.level program.with program.whole paging constant_or program.alone program.single program.sources program.source program.viewing
level_is query schema q src name out plain from is shows = rw (plain.with, plain.limit, plain.offset, plain.others, plain.order, from, is.origin, shows) refl

query_is : (schema : Schema) (q : Select) (src : Source) (name : Name) (out : program.Shown) → IsPlainSelect q → (out-Core (out-Select q).first).from ≡ src ∷ [] → Reads src name
    → named schema (out-Select q).first [] page ≡ Ok out → program.query schema q ≡ Ok (out, [])
unfolding program.query program.query_to
query_is schema q src name out plain from is shows = level_is (program.query_to 15) schema q src name out plain from is shows

output_is : (low : Lower) (cx : Context) (tables : List Bound) (done : List Output) (sh : Shown) (e : Expr) (text : Name) (t : Term) (s u : State) → out-Shown sh ≡ Shown-F.One e None text → low cx e s ≡ Ok (t, u)
    → shown low cx tables done sh s ≡ Ok (done ++ record { name = heading cx e text; is_alias = false; is_column = is_column e; term = t; carried = u.last } ∷ [], u)
unfolding shown
output_is low cx tables done sh e text t s u is lowers = rw (is, lowers) refl

-- ---- a column of the table

found_is : (cx : Context) (name wanted : Name) (at k : ℕ) (table : Table) (cols : List Output) → cx.levels ≡ level name at cols ∷ [] → slice_get cx.schema.tables at ≡ Some table → column_named table wanted ≡ Some k → find cx None wanted ≡ Ok (Column 1 at k)
unfolding find in_level only hit column_in is_among
found_is cx name wanted at k table cols levels there is = rw (levels, there, is) refl

column_is : (cx : Context) (name wanted : Name) (at k : ℕ) (table : Table) (c : Declared) (cols : List Output) (s : State) → cx.levels ≡ level name at cols ∷ [] → slice_get cx.schema.tables at ≡ Some table → column_named table wanted ≡ Some k
    → slice_get table.columns k ≡ Some c → column cx None wanted s ≡ Ok (col 1 (place_of table k), record s { last = declared table k c })
unfolding column term_of column_at
column_is cx name wanted at k table c cols s levels there is has = rw (found_is cx name wanted at k table cols levels there is, there, has) refl

-- after two slots, with this much left to spend
abbrev left : ℕ → Carried → State
left budget last = record { next = 2; steps = []; aggregates = []; budget = budget; written = None; last = last }

lower_column : (depth : ℕ) (cx : Context) (name wanted : Name) (at k budget : ℕ) (table : Table) (c : Declared) (cols : List Output) (e : Expr) (l : Carried) → out-Expr e ≡ Expr-F.Column None wanted → nat_lt 1 budget ≡ true
    → cx.levels ≡ level name at cols ∷ [] → slice_get cx.schema.tables at ≡ Some table → column_named table wanted ≡ Some k → slice_get table.columns k ≡ Some c
    → node (lower_to depth) cx e (left budget l) ≡ Ok (col 1 (place_of table k), left (budget - 1) (declared table k c))
unfolding node opened begin finish spend passes
lower_column depth cx name wanted at k budget table c cols e l is enough levels there named has =
    rw (is, enough, column_is cx name wanted at k table c cols (left (budget - 1) nothing) levels there named has) refl

lower_parameter : (depth : ℕ) (cx : Context) (budget : ℕ) (e : Expr) (l : Carried) → out-Expr e ≡ Expr-F.Parameter 1 → nat_lt 1 budget ≡ true → node (lower_to depth) cx e (left budget l) ≡ Ok (col 0 0, left (budget - 1) nothing)
unfolding node opened begin finish spend passes
lower_parameter depth cx budget e l is enough = rw (is, enough) refl

-- the number of the row
abbrev row_test : Term
row_test = op2 (Compare Eq Binary) (col 1 0) (col 0 0)

compare_is : (cx : Context) (name : Name) (at : ℕ) (cols : List Output) → cx.levels ≡ level name at cols ∷ [] → (s : State) → combine cx binary.Eq (chosen nothing nothing) (col 1 0) (col 0 0) s ≡ Ok (row_test, s)
unfolding combine compared converted affinity_of of_column may_be_text chosen first_found
compare_is cx name at cols levels s = rw levels refl

both_is : (cx : Context) (name wanted : Name) (at : ℕ) (table : Table) (c : Declared) (cols : List Output) (a b : Expr) (l : Carried) → out-Expr a ≡ Expr-F.Column None wanted → out-Expr b ≡ Expr-F.Parameter 1
    → cx.levels ≡ level name at cols ∷ [] → slice_get cx.schema.tables at ≡ Some table → column_named table wanted ≡ Some 0 → slice_get table.columns 0 ≡ Some c → table.key ≡ Some 0
    → both (lower_to 699) cx binary.Eq a b (left 99997 l) ≡ Ok (row_test, left 99995 nothing)
unfolding both lower_to tests_truth tests_alias
both_is cx name wanted at table c cols a b l column parameter levels there named has key =
    rw (lower_column 698 cx name wanted at 0 99997 table c cols a l column refl levels there named has, key, lower_parameter 698 cx 99996 b nothing parameter refl, compare_is cx name at cols levels (left 99995 nothing)) refl

test_is : (cx : Context) (name wanted : Name) (at : ℕ) (table : Table) (c : Declared) (cols : List Output) (e a b : Expr) (l : Carried) → out-Expr e ≡ Expr-F.Binary binary.Eq a b → out-Expr a ≡ Expr-F.Column None wanted → out-Expr b ≡ Expr-F.Parameter 1
    → cx.levels ≡ level name at cols ∷ [] → slice_get cx.schema.tables at ≡ Some table → column_named table wanted ≡ Some 0 → slice_get table.columns 0 ≡ Some c → table.key ≡ Some 0
    → tests lower cx [] (Some e) (left 99998 l) ≡ Ok (row_test ∷ [], left 99995 nothing)
unfolding tests lower_to node opened begin finish spend passes operation wanted_truth
test_is cx name wanted at table c cols e a b l is column parameter levels there named has key =
    rw (is, both_is cx name wanted at table c cols a b nothing column parameter levels there named has key) refl

abbrev count_all : Aggregate
count_all = record { op = CountRows; distinct = false; collation = Binary; argument = lit Null }

star_is : (cx : Context) (e : Expr) → out-Expr e ≡ Expr-F.CallStar (codes "count") → cx.may_aggregate ≡ true → lower cx e (fresh 2 max_budget) ≡ Ok (col pending 0, record (left 99999 nothing) { aggregates = count_all ∷ [] })
unfolding lower_to node opened begin finish spend passes star function_named count_rows aggregate same_name
star_is cx e is may = rw (is, may) refl

outputs_one : (low : Lower) (cx : Context) (tables : List Bound) (sh : Shown) (e : Expr) (text : Name) (t : Term) (s u : State) → out-Shown sh ≡ Shown-F.One e None text → low cx e s ≡ Ok (t, u)
    → outputs low cx tables (sh ∷ []) s ≡ Ok (record { name = heading cx e text; is_alias = false; is_column = is_column e; term = t; carried = u.last } ∷ [], u)
unfolding outputs
outputs_one low cx tables sh e text t s u is lowers = rw (output_is low cx tables [] sh e text t s u is lowers) refl

-- the row of a count, and the columns of a row
abbrev pub count_query : ℕ → Query
count_query tree = record {
  from = inner tree end;
  filter = [];
  group = Some (record { keys = []; collations = []; aggregates = record { op = CountRows; distinct = false; collation = Binary; argument = lit Null } ∷ []; having = [] });
  project = col 1 0 ∷ [];
  distinct = false;
  collations = [];
  order = [];
  limit = lit (Int (negsuc 0));
  offset = lit (Int (pos 0));
}

abbrev pub row_query : ℕ → ℕ → Query
row_query tree body = record {
  from = inner tree end;
  filter = row_test ∷ [];
  group = None;
  project = col 1 2 ∷ col 1 body ∷ [];
  distinct = false;
  collations = [];
  order = [];
  limit = lit (Int (negsuc 0));
  offset = lit (Int (pos 0));
}

-- ---- what the texts are

-- a query on one table
pub record IsQuery (text name : Name) : Type 0 where
  pub select : Select
  source : Source
  pub is : statement_in (first text) ≡ written.Select select
  pub untimed : formats_in (first text) ≡ []
  plain : IsPlainSelect select
  from : (out-Core (out-Select select).first).from ≡ source ∷ []
  reads : Reads source name
  distinct : (out-Core (out-Select select).first).distinct ≡ false
  group : (out-Core (out-Select select).first).group ≡ []
  having : (out-Core (out-Select select).first).having ≡ None

-- SELECT count(*)
pub record Counts (text name : Name) : Type 0 where
  pub query : IsQuery text name
  column : Shown
  heading : Name
  e : Expr
  shows : (out-Core (out-Select query.select).first).shown ≡ column ∷ []
  one : out-Shown column ≡ Shown-F.One e None heading
  star : out-Expr e ≡ Expr-F.CallStar (codes "count")
  filter : (out-Core (out-Select query.select).first).filter ≡ None

abbrev ShowsColumn : Shown → Name → Type 0
ShowsColumn column name = (e : Expr) × (heading : Name) × (out-Shown column ≡ Shown-F.One e None heading) × (out-Expr e ≡ Expr-F.Column None name)

abbrev TestsSeq : Option Expr → Type 0
TestsSeq filter = (test : Expr) × (seq : Expr) × (parameter : Expr) × (filter ≡ Some test) × (out-Expr test ≡ Expr-F.Binary binary.Eq seq parameter)
    × (out-Expr seq ≡ Expr-F.Column None (codes "seq")) × (out-Expr parameter ≡ Expr-F.Parameter 1)

-- SELECT id, body .. WHERE seq = ?1
pub record Finds (text name : Name) : Type 0 where
  pub query : IsQuery text name
  column : Shown
  other : Shown
  shows : (out-Core (out-Select query.select).first).shown ≡ column ∷ other ∷ []
  id : ShowsColumn column (codes "id")
  body : ShowsColumn other (codes "body")
  test : TestsSeq (out-Core (out-Select query.select).first).filter

pub count_parts : Counts count_text (codes "accepted2")
unfolding everything
count_parts = record {
  query = record { select = _; source = _; is = refl; untimed = refl; plain = record { with = refl; others = refl; order = refl; limit = refl; offset = refl }; from = refl; reads = record { origin = refl; inner = refl; alias = refl; on = refl; using = refl }; distinct = refl; group = refl; having = refl };
  column = _;
  heading = _;
  e = _;
  shows = refl;
  one = refl;
  star = refl;
  filter = refl;
}

pub first_count_parts : Counts first_count_text (codes "accepted")
unfolding everything
first_count_parts = record {
  query = record { select = _; source = _; is = refl; untimed = refl; plain = record { with = refl; others = refl; order = refl; limit = refl; offset = refl }; from = refl; reads = record { origin = refl; inner = refl; alias = refl; on = refl; using = refl }; distinct = refl; group = refl; having = refl };
  column = _;
  heading = _;
  e = _;
  shows = refl;
  one = refl;
  star = refl;
  filter = refl;
}

pub row_parts : Finds row_text (codes "accepted2")
unfolding everything
row_parts = record {
  query = record { select = _; source = _; is = refl; untimed = refl; plain = record { with = refl; others = refl; order = refl; limit = refl; offset = refl }; from = refl; reads = record { origin = refl; inner = refl; alias = refl; on = refl; using = refl }; distinct = refl; group = refl; having = refl };
  column = _;
  other = _;
  shows = refl;
  id = (_, _, refl, refl);
  body = (_, _, refl, refl);
  test = (_, _, _, refl, refl, refl, refl);
}

pub first_row_parts : Finds first_row_text (codes "accepted")
unfolding everything
first_row_parts = record {
  query = record { select = _; source = _; is = refl; untimed = refl; plain = record { with = refl; others = refl; order = refl; limit = refl; offset = refl }; from = refl; reads = record { origin = refl; inner = refl; alias = refl; on = refl; using = refl }; distinct = refl; group = refl; having = refl };
  column = _;
  other = _;
  shows = refl;
  id = (_, _, refl, refl);
  body = (_, _, refl, refl);
  test = (_, _, _, refl, refl, refl, refl);
}

-- ---- the query that they are

-- out of what is shown and the tests
abbrev drawn : List Output → List Term → Name → ℕ → ℕ → Bool → Clauses
drawn cols terms name at tree is_grouped =
    record { body = record { level = level name at cols; steps = Inner tree ∷ []; filter = terms }; is_grouped = is_grouped; keys = []; collations = []; having = []; order = [] }

query_of_parts : (text name : Name) (schema : Schema) (at : ℕ) (table : Table) (is : IsQuery text name) (cols : List Output) (terms : List Term) (s t : State) (d : Draft)
    → table_named schema name ≡ Some at → slice_get schema.tables at ≡ Some table
    → outputs lower (within (outermost schema) (level name at []) true) (in_slot name at ∷ []) (out-Core (out-Select is.select).first).shown (fresh 2 max_budget) ≡ Ok (cols, s)
    → tests lower (within (outermost schema) (level name at cols) false) [] (out-Core (out-Select is.select).first).filter s ≡ Ok (terms, t)
    → assembled false page.0 page.1 (drawn cols terms name at table.tree (not (length t.aggregates == 0))) t ≡ Ok d
    → (out : program.Shown) × (program.query schema is.select ≡ Ok (out, [])) × (out.0 ≡ d)
query_of_parts text name schema at table is cols terms s t d found there shows filters made =
    let core = (out-Select is.select).first in
    let whole = body_is lower schema core is.source at name table cols terms s t is.from is.reads found there shows filters in
    let all = named_is schema core (drawn cols terms name at table.tree (not (length t.aggregates == 0))) t d is.distinct (parts_is schema core _ t is.group is.having whole) made in
    (_, query_is schema is.select is.source name _ is.plain is.from is.reads all, refl)

abbrev shows_term : Name → Bool → Carried → Term → Output
shows_term name is_column carried term = record { name = name; is_alias = false; is_column = is_column; term = term; carried = carried }

count_draft : (at tree : ℕ) (name n : Name) (c : Bool)
    → (d : Draft) × (assembled false page.0 page.1 (drawn (shows_term n c nothing (col pending 0) ∷ []) [] name at tree true) (record (left 99999 nothing) { aggregates = count_all ∷ [] }) ≡ Ok d) × (query_of d ≡ count_query tree)
unfolding everything
count_draft at tree name n c = (_, refl, refl)

row_draft : (at tree body : ℕ) (name n m : Name) (c e : Bool) (x y : Carried) (k : ℕ)
    → (d : Draft) × (assembled false page.0 page.1 (drawn (shows_term n c x (col 1 k) ∷ shows_term m e y (col 1 body) ∷ []) (row_test ∷ []) name at tree false) (left 99995 nothing) ≡ Ok d)
    × (k ≡ 2 → query_of d ≡ row_query tree body)
unfolding everything
row_draft at tree body name n m c e x y k = (_, refl, λ is. rw is refl)

pub counting : (text name : Name) (schema : Schema) (at : ℕ) (table : Table) (is : Counts text name) → table_named schema name ≡ Some at → slice_get schema.tables at ≡ Some table
    → (out : program.Shown) × (program.query schema is.query.select ≡ Ok (out, [])) × (query_of out.0 ≡ count_query table.tree)
counting text name schema at table is found there =
    let cx = within (outermost schema) (level name at []) true in
    let star = star_is cx is.e is.star refl in
    let shows = outputs_one lower cx (in_slot name at ∷ []) is.column is.e is.heading (col pending 0) (fresh 2 max_budget) _ is.one star in
    let o = shows_term (heading cx is.e is.heading) (is_column is.e) nothing (col pending 0) in
    let d = count_draft at table.tree name (heading cx is.e is.heading) (is_column is.e) in
    let u : State = record (left 99999 nothing) { aggregates = count_all ∷ [] } in
    let it = query_of_parts text name schema at table is.query (o ∷ []) [] u u d.0 found there (rw is.shows shows) (rw is.filter (tests_none lower _ [] u)) d.1 in
    (it.0, it.1, ap query_of it.2 ∙ d.2)

outputs_two : (low : Lower) (cx : Context) (tables : List Bound) (sh more : Shown) (e f : Expr) (text other : Name) (t u : Term) (r s v : State) → out-Shown sh ≡ Shown-F.One e None text → low cx e r ≡ Ok (t, s)
    → out-Shown more ≡ Shown-F.One f None other → low cx f s ≡ Ok (u, v)
    → outputs low cx tables (sh ∷ more ∷ []) r ≡ Ok (shows_term (heading cx e text) (is_column e) s.last t ∷ shows_term (heading cx f other) (is_column f) v.last u ∷ [], v)
unfolding outputs
outputs_two low cx tables sh more e f text other t u r s v is first and second =
    rw (output_is low cx tables [] sh e text t r s is first, output_is low cx tables (shows_term (heading cx e text) (is_column e) s.last t ∷ []) more f other u s v and second) refl

lower_once : (cx : Context) (e : Expr) (s : State) → lower cx e s ≡ node (lower_to 699) cx e s
unfolding lower_to
lower_once cx e s = refl

-- where the columns stand
pub record HasColumns (table : Table) (k body : ℕ) : Type 0 where
  seq_column : Declared
  id_column : Declared
  body_column : Declared
  key : table.key ≡ Some 0
  seq : column_named table (codes "seq") ≡ Some 0
  seq_is : slice_get table.columns 0 ≡ Some seq_column
  id : column_named table (codes "id") ≡ Some 1
  id_is : slice_get table.columns 1 ≡ Some id_column
  body_at : column_named table (codes "body") ≡ Some k
  body_is : slice_get table.columns k ≡ Some body_column
  id_place : place_of table 1 ≡ 2
  body_place : place_of table k ≡ body

pub first_columns : (tree : ℕ) → HasColumns (record accepted { tree = tree }) 2 3
unfolding same_name
first_columns tree = record { seq_column = _; id_column = _; body_column = _; key = refl; seq = refl; seq_is = refl; id = refl; id_is = refl; body_at = refl; body_is = refl; id_place = refl; body_place = refl }

pub second_columns : (tree : ℕ) → HasColumns (record second { tree = tree }) 3 4
unfolding same_name
second_columns tree = record { seq_column = _; id_column = _; body_column = _; key = refl; seq = refl; seq_is = refl; id = refl; id_is = refl; body_at = refl; body_is = refl; id_place = refl; body_place = refl }

pub finding : (text name : Name) (schema : Schema) (at k body : ℕ) (table : Table) (is : Finds text name) → HasColumns table k body → table_named schema name ≡ Some at → slice_get schema.tables at ≡ Some table
    → (out : program.Shown) × (program.query schema is.query.select ≡ Ok (out, [])) × (query_of out.0 ≡ row_query table.tree body)
finding text name schema at k body table is columns found there =
    let cx = within (outermost schema) (level name at []) true in
    let one = lower_once cx is.id.0 (left 100000 nothing) ∙ lower_column 699 cx name (codes "id") at 1 100000 table columns.id_column [] is.id.0 nothing is.id.3 refl refl there columns.id columns.id_is in
    let x = declared table 1 columns.id_column in
    let two = lower_once cx is.body.0 (left 99999 x) ∙ lower_column 699 cx name (codes "body") at k 99999 table columns.body_column [] is.body.0 x is.body.3 refl refl there columns.body_at columns.body_is in
    let y = declared table k columns.body_column in
    let both = outputs_two lower cx (in_slot name at ∷ []) is.column is.other is.id.0 is.body.0 is.id.1 is.body.1 (col 1 (place_of table 1)) (col 1 (place_of table k)) (left 100000 nothing) (left 99999 x) (left 99998 y) is.id.2 one is.body.2 two in
    let cols = shows_term (heading cx is.id.0 is.id.1) (is_column is.id.0) x (col 1 (place_of table 1)) ∷ shows_term (heading cx is.body.0 is.body.1) (is_column is.body.0) y (col 1 (place_of table k)) ∷ [] in
    let tests = test_is (within (outermost schema) (level name at cols) false) name (codes "seq") at table columns.seq_column cols is.test.0 is.test.1 is.test.2 y is.test.4 is.test.5 is.test.6 refl there columns.seq columns.seq_is columns.key in
    let d = row_draft at table.tree (place_of table k) name (heading cx is.id.0 is.id.1) (heading cx is.body.0 is.body.1) (is_column is.id.0) (is_column is.body.0) x y (place_of table 1) in
    let it = query_of_parts text name schema at table is.query cols (row_test ∷ []) (left 99998 y) (left 99995 nothing) d.0 found there (rw is.shows both) (rw is.test.3 tests) d.1 in
    (it.0, it.1, ap query_of it.2 ∙ d.2 columns.id_place ∙ ap (row_query table.tree) columns.body_place)
