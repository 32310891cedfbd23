-- The routes, and what a path asks for.
use Rattle.std.specs.Prelude.{◌≡◌, ℕ, Bool, List, [], length, drop, nat_eq, nat_lt, ◌==◌, if◌then◌else◌, Option, Some, None, option_map, option_and_then, Result, Ok, Err, codes}
use Rattle.std.specs.List.{starts_with, position_or_len, before_first, after_first}
use Rattle.matchit.specs.Rows.{RowsOf}
use Rattle.matchit.specs.Order.{placed}
use Rattle.matchit.specs.Route.{Scan, parse_route}
use Rattle.matchit.specs.Router.{RouteOf, nearest, route_from}
use Rattle.matchit.specs.Seek.{first}
use Rattle.matchit.specs.declared.error.InsertError.{InsertError}
use Rattle.ghg_http.specs.declared.route.Route.{Route}
use Rattle.ghg_http.specs.declared.route.Route.TheVariants.{Submissions, Tables}
use Rattle.ghg_http.specs.declared.route.Target as declared
use Rattle.ghg_http.specs.declared.route.Target.TheVariants as found

abbrev pub Rows : Type 0
Rows = RowsOf (RouteOf Route)

-- the rows with one more route
abbrev pub with_route : Result Scan InsertError → Route → Rows → Rows
with_route (Ok s) route rows = placed (s.pattern, route_from s route) rows
with_route (Err e) route rows = rows

-- the route reads well, and conflicts with none of the rows
abbrev pub IsAdmitted : Result Scan InsertError → Rows → Type 0
IsAdmitted (Ok s) rows = nearest s.pattern rows ≡ None
IsAdmitted (Err e) rows = ⊥

unfoldable pub routes : Rows
routes =
    with_route (parse_route (codes "/tables/{table}/{year}")) Tables
    (with_route (parse_route (codes "/submissions/{id}")) Submissions [])

-- what a path asks for
pub data Target : Type 0 where
  -- the id of a submission
  submission : List ℕ → Target
  -- the name of a table and its year
  table : List ℕ → List ℕ → Target

-- what the reader found
abbrev pub seen : declared.Target → Target
seen (found.Submission id) = submission id.now
seen (found.Table name year) = table name.now year.now

abbrev pub is_slash : ℕ → Bool
is_slash b = b == 47

-- the text behind a prefix
abbrev pub behind : List ℕ → List ℕ → Option (List ℕ)
behind prefix text = if starts_with nat_eq text prefix then Some (drop (length prefix) text) else None

-- the parts on both sides of the first slash
abbrev pub table_at : List ℕ → Option Target
table_at text =
    if nat_lt (position_or_len is_slash text) (length text)
    then Some (table (before_first is_slash text) (after_first is_slash text)) else None

-- the parameters of a route's path
abbrev pub parts_of : Route → List ℕ → Option Target
parts_of Submissions path = option_map submission (behind (codes "/submissions/") path)
parts_of Tables path = option_and_then table_at (behind (codes "/tables/") path)

-- what the path asks for, by the route that it matches
unfoldable pub target_of : List ℕ → Option Target
target_of path = option_and_then (λ route. parts_of route.value path) (first routes path)

-- the path of a request target, which ends at a question mark
abbrev pub path_of : List ℕ → List ℕ
path_of target = before_first (λ b. b == 63) target
