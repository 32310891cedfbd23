-- The lines of a desk's replies.
use Rattle.std.specs.Prelude.{ℕ, List, ◌++◌, codes}
use Rattle.std.specs.Fmt.{decimal}
use Rattle.ghg_office.specs.Replies.{reply_text}
use Rattle.ghg_versions.specs.declared.reply.DeskReply.{DeskReply}
use Rattle.ghg_versions.specs.declared.reply.DeskReply.TheVariants.{Office, Frozen, BadVersion, VersionExists, TooManyVersions, Table, NoTable, Memory}

-- The line of the reply to a command of this name, without its end; a table is its own lines.
unfoldable pub desk_text : List ℕ → DeskReply → List ℕ
desk_text name (Office reply) = reply_text reply
desk_text name (Frozen seq) = codes "frozen " ++ name ++ codes " " ++ decimal seq
desk_text name BadVersion = codes "refused 14 BadVersion"
desk_text name (VersionExists seq) = codes "refused 15 VersionExists " ++ decimal seq
desk_text name TooManyVersions = codes "refused 16 TooManyVersions"
desk_text name (Table text) = text
desk_text name NoTable = codes "no table"
desk_text name Memory = codes "memory"
