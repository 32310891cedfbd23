-- What the office makes of a keeper.
use Rattle.std.specs.Prelude.{◌≡◌, Bool, ◌&&◌, List}
use Rattle.ghg_keeper.specs.declared.row.KeptRow.{KeptRow}
use Rattle.ghg_keeper.specs.Shelf.{Shelf}
use Rattle.ghg_office.specs.Office.{Answer}
use Rattle.ghg_office.specs.Replies.{is_accepted}

-- where the keeper tells its rows, they are these
abbrev pub Lists : Shelf → List KeptRow → Type 0
Lists shelf rows = shelf.tells → shelf.rows ≡ rows

-- A keeper had these rows before some calls: those that it told, unless a wrong answer was taken as true. If
-- it tells its rows after the calls, it told them before.
pub record HadRows (before after : Shelf) (rows : List KeptRow) : Type 0 where
  pub told : after.tells → before.tells
  pub same : before.tells → after.clean → rows ≡ before.rows

-- Rows that are told after the call were told before it, and they are the accepted submissions. The name in
-- use is the same, and no wrong answer is forgotten.
pub record KeepsAccepted (before after : Shelf) (accepted : List KeptRow) : Type 0 where
  pub clean : after.clean → before.clean
  pub told : after.tells → before.tells
  pub rows : Lists after accepted
  pub name : after.name ≡ before.name

-- the submission is to be stored, and breaks no rule
abbrev pub is_to_append : Bool → Answer → Bool
is_to_append stored answer = stored && is_accepted answer.reply
