-- The bounds that are printed hold, since the data stay in force.
use Rattle.std.proofs.Common.{ℕ, Bool, List, Option, Some, None, [], ◌∷◌, refl, sym, subst}
use Rattle.ghg_http.specs.declared.request.Request.{Request as LinkRequest}
use Rattle.ghg_http.specs.declared.request.Request.TheVariants as on_link
use Rattle.ghg_http.specs.declared.serve.LinkEnd.{LinkEnd}
use Rattle.ghg_http.specs.declared.serve.LinkEnd.TheVariants as ended
use Rattle.ghg_http.specs.Reply.{HttpReply}
use Rattle.ghg_http.specs.Serve.{Exchange, Passes, Replies, ServesLink}
use Rattle.ghg_http.specs.Serve.{Snapshot as LinkSnapshot}
use Rattle.ghg_office.specs.declared.reply.Reply.{Reply}
use Rattle.ghg_office.specs.declared.reply.Reply.TheVariants as answered
use Rattle.ghg_office.specs.Laws.{IsInForce}
use Rattle.ghg_office.specs.Office.{Answer, State, requested}
use Rattle.ghg_office.specs.Replies.{Answers}
use Rattle.ghg_office.specs.Requests.{answer_to}
use Rattle.ghg_office.specs.declared.request.Request.{Request as OfficeRequest}
use Rattle.ghg_office.specs.declared.request.Request.TheVariants as office
use Rattle.ghg_office.proofs.InForce.{requested_sound, states_stay}
use Rattle.ghg_script.specs.declared.command.Request.{Request}
use Rattle.ghg_script.specs.declared.command.Request.TheVariants.{Submit, Query}
use Rattle.ghg_script.specs.declared.script.TableQuery.{TableQuery}
use Rattle.ghg_session.specs.Replies.{asked_of, office_step, table_lines}
use Rattle.ghg_run.specs.Sound.{AreSoundLines, AreSoundTableLines, RepliesAreSound}

next_stays : (s : State) (request : OfficeRequest (List ℕ)) → IsInForce s → IsInForce (answer_to s request).after
next_stays s (office.Submit id body) h = states_stay.later s id body h
next_stays s (office.Show name year) h = h

stays : (stored : Bool) (s : State) (asked : Request TableQuery) → IsInForce s → IsInForce (office_step stored s asked).after
unfolding office_step
stays stored s asked h = next_stays s (asked_of asked) h

pub sound_table : (s : State) (show : TableQuery) → IsInForce s → AreSoundTableLines s show (table_lines show.table show.year (requested s show.table show.year))
sound_table s show h = (requested s show.table show.year, refl, requested_sound s h show.table show.year)

sound_lines : (stored : Bool) (s : State) (asked : Request TableQuery) → IsInForce s → AreSoundLines s asked (office_step stored s asked).reply
unfolding office_step
sound_lines stored s (Submit id body) h = tt
sound_lines stored s (Query show) h = sound_table s show h

pub sound_replies : RepliesAreSound
sound_replies stored s h [] = tt
sound_replies stored s h (first ∷ rest) =
    (sound_lines stored s first h, sound_replies stored (office_step stored s first).after (stays stored s first h) rest)

-- ---- a link

answer_stays : (s after : State) (answer : Answer) (reply : Reply) → Answers answer reply s after → IsInForce s
    → IsInForce answer.after → IsInForce after
answer_stays s after answer answered.KeeperFault a h next = subst IsInForce (sym a) h
answer_stays s after answer answered.Memory a h next = subst IsInForce (sym a) h
answer_stays s after answer (answered.Accepted seq cells) a h next = subst IsInForce (sym a.1) next
answer_stays s after answer (answered.Repeated seq) a h next = subst IsInForce (sym a.1) next
answer_stays s after answer (answered.Refused rule) a h next = subst IsInForce (sym a.1) next
answer_stays s after answer (answered.Table text) a h next = subst IsInForce (sym a.1) next
answer_stays s after answer answered.NoTable a h next = subst IsInForce (sym a.1) next

reply_stays : (s after : State) (asked : LinkRequest) (due : HttpReply) → Replies s asked due after → IsInForce s
    → IsInForce after
reply_stays s after (on_link.Refused reason) due r h = subst IsInForce (sym r.1) h
reply_stays s after (on_link.Asked request) due r h =
    answer_stays s after (answer_to s request) r.0 r.1 h (next_stays s request h)

passes_stay : (x : Exchange) (due : Option HttpReply) (end : LinkEnd) → Passes x due end
    → IsInForce x.before → IsInForce x.after
passes_stay x (Some due) (ended.Served code) p h = reply_stays x.before x.after _ due p.answered.replies h
passes_stay x (Some due) ended.Cut p h = absurd p
passes_stay x (Some due) ended.LinkFault p h = reply_stays x.before x.after _ due p.answered.replies h
passes_stay x (Some due) ended.Memory p h = reply_stays x.before x.after _ due p.answered.replies h
passes_stay x None (ended.Served code) p h = absurd p
passes_stay x None ended.Cut p h = subst IsInForce (sym p.unanswered.same) h
passes_stay x None ended.LinkFault p h = subst IsInForce (sym p.unanswered.same) h
passes_stay x None ended.Memory p h = subst IsInForce (sym p.unanswered.same) h

-- However a link ends, the data stay in force.
pub link_stays : (before after : LinkSnapshot) (due : Option HttpReply) (end : LinkEnd)
    → ServesLink before after due end → IsInForce before.state → IsInForce after.state
link_stays before after due end s h =
    subst IsInForce s.to (passes_stay s.exchange due end s.passes (subst IsInForce (sym s.from) h))
