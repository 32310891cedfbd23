-- The statuses of the program.
use Rattle.std.specs.Prelude.{ℕ}
use Rattle.ghg_words.specs.declared.status.Status.{Status}
use Rattle.ghg_words.specs.declared.status.Status.TheVariants.{Done, BadCommandLine, NoScript, InputFailed, OutputFailed, StoreFailed, DoorFailed, OutOfMemory, RowRefused, SpliceRefused}

-- the number that the process ends with
abbrev pub status_code : Status → ℕ
status_code Done = 0
status_code BadCommandLine = 2
status_code NoScript = 3
status_code InputFailed = 4
status_code OutputFailed = 5
status_code StoreFailed = 6
status_code DoorFailed = 7
status_code OutOfMemory = 8
status_code RowRefused = 9
status_code SpliceRefused = 10
