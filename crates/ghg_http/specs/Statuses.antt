-- The table of statuses: the code and the body of each reply.
use Rattle.std.specs.Prelude.{ℕ}
use Rattle.ghg_units.specs.declared.rule.Rule.{Rule}
use Rattle.ghg_units.specs.declared.rule.Rule.TheVariants.{IdReused}
use Rattle.ghg_office.specs.Replies.{reply_text}
use Rattle.ghg_office.specs.declared.reply.Reply.{Reply}
use Rattle.ghg_office.specs.declared.reply.Reply.TheVariants.{Accepted, Repeated, Refused, Table, NoTable, KeeperFault, Memory}
use Rattle.ghg_http.specs.Decision.{refusal_row}
use Rattle.ghg_http.specs.Reply.{HttpReply, in_json}
use Rattle.ghg_http.specs.declared.decision.Refusal.{Refusal}
use Rattle.ghg_http.specs.declared.reply.MediaType.TheVariants.{Csv}

-- the reply to a request that is refused before its body is read
abbrev pub refusal_reply : Refusal → HttpReply
refusal_reply reason = in_json (refusal_row reason).0 (refusal_row reason).1

-- the code for the rule that a submission breaks
abbrev pub rule_code : Rule → ℕ
rule_code (IdReused seq) = 409
rule_code rule = 422

-- the code of what the office answers
abbrev pub office_code : Reply → ℕ
office_code (Accepted seq cells) = 201
office_code (Repeated seq) = 200
office_code (Refused rule) = rule_code rule
office_code (Table lines) = 200
office_code NoTable = 404
office_code KeeperFault = 503
office_code Memory = 507

-- the reply to a request that reaches the office: a table is its own lines, and all else is one line in JSON
abbrev pub office_reply : Reply → HttpReply
office_reply (Table lines) = record { code = 200; media = Csv; body = lines }
office_reply answer = in_json (office_code answer) (reply_text answer)
