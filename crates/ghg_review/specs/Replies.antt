-- What a desk replies to the requests of a review, as bytes, and its state after them.
use Rattle.std.specs.Prelude.{◌≡◌, ℕ, true, false, List, [], codes}
use Rattle.ghg_office.specs.declared.reply.Reply.TheVariants as office
use Rattle.ghg_script.specs.declared.command.Request.{Request}
use Rattle.ghg_script.specs.declared.command.Request.TheVariants.{Submit, Query}
use Rattle.ghg_script.specs.declared.review.ReviewQuery.{ReviewQuery}
use Rattle.ghg_script.specs.declared.review.ReviewQuery.TheVariants as query
use Rattle.ghg_script.specs.Commands.{line_of}
use Rattle.ghg_script.specs.Review.{review_forms}
use Rattle.ghg_session.specs.Replies.{table_lines, HasNoLines as HasNoOfficeLines}
use Rattle.ghg_session.specs.Session.{Protocol, Step, protocol_of}
use Rattle.ghg_versions.specs.declared.command.Command.{Command}
use Rattle.ghg_versions.specs.declared.command.Command.TheVariants as command
use Rattle.ghg_versions.specs.declared.reply.DeskReply.{DeskReply}
use Rattle.ghg_versions.specs.declared.reply.DeskReply.TheVariants.{Office, Frozen, Table}
use Rattle.ghg_versions.specs.Desk.{DeskState, answered, evaluations_for}
use Rattle.ghg_versions.specs.Lines.{desk_text}
use Rattle.ghg_words.specs.declared.status.Status.{Status}
use Rattle.ghg_words.specs.declared.status.Status.TheVariants.{OutOfMemory}

-- ---- what a request puts to the desk

abbrev pub query_of : ReviewQuery → Command
query_of (query.Show show) = command.Show show.table show.year
query_of (query.Freeze name) = command.Freeze name
query_of (query.Recalc name year) = command.Recalc name year
query_of (query.Trend year) = command.Trend year

abbrev pub command_of : Request ReviewQuery → Command
command_of (Submit id body) = command.Submit id body
command_of (Query asked) = query_of asked

-- the name that is to be frozen, if one is
abbrev pub name_in : Command → List ℕ
name_in (command.Freeze name) = name
name_in _ = []

-- ---- the lines of a reply

-- a table under its heading, or one line
abbrev pub lines_under : List ℕ → ℕ → DeskReply → List ℕ
lines_under table year (Office reply) = table_lines table year reply
lines_under table year (Table text) = table_lines table year (office.Table text)
lines_under table year reply = line_of (desk_text [] reply)

abbrev pub lines_of : Command → DeskReply → List ℕ
lines_of (command.Submit id body) reply = line_of (desk_text [] reply)
lines_of (command.Show table year) reply = lines_under table year reply
lines_of (command.Freeze name) reply = line_of (desk_text name reply)
lines_of (command.Recalc name year) reply = lines_under (codes "recalc") year reply
lines_of (command.Trend year) reply = lines_under (codes "trendunc") year reply

-- Why a reply has no lines: memory ran out for them, or the reply is that it did. That a name was frozen is
-- always told.
abbrev pub HasNoLines : DeskReply → Status → Type 0
HasNoLines (Office reply) stop = HasNoOfficeLines reply stop
HasNoLines (Frozen seq) stop = ⊥
HasNoLines reply stop = stop ≡ OutOfMemory

-- ---- a review

-- What a request comes to. Each takes memory, in which it is put to the desk, and none is kept. A step is the
-- evaluation of a node: a submission evaluates at most those that its rows affect, another request none.
unfoldable pub review_step : DeskState → Request ReviewQuery → Step DeskState
review_step s asked = record {
  reply = lines_of (command_of asked) (answered s (command_of asked)).reply;
  after = (answered s (command_of asked)).after;
  takes_memory = true;
  is_kept = false;
  steps = evaluations_for s (command_of asked);
}

abbrev pub review : Protocol DeskState (Request ReviewQuery)
review = protocol_of review_forms review_step
