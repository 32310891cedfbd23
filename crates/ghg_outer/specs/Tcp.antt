-- What links and doors over TCP tell.
use Rattle.std.specs.Prelude.{◌≡◌, ◌⊎◌, ℕ, pos, false, List, Option, None, Some, option_map}
use Rattle.std.specs.IoError.{raw_os_error}
use Rattle.std.specs.declared.io.Error.{Error}
use Rattle.ghg_outer.specs.Doors.{Register}
use Rattle.ghg_outer.specs.Tape.{Tape}
use Rattle.ghg_outer.specs.declared.tcp.TcpDoor.{TcpDoor}
use Rattle.ghg_outer.specs.declared.tcp.TcpLink.{TcpLink}

-- A link tells nothing of its bytes: std does not say that a write to a stream leaves what is to be read, nor
-- that a read leaves what was written.
abbrev pub tcp_tape : {C S : Type 0} → TcpLink C S → Tape
tcp_tape link = record { left = None; taken = None; written = None; faults = link.faults; grows = false }

-- The tape that a read sees: what the stream has left, where it tells that.
abbrev pub read_tape : {C S : Type 0} → (S → Option (List ℕ)) → TcpLink C S → Tape
read_tape remaining link = record (tcp_tape link) { left = remaining link.stream }

-- The tape that a write sees: what the stream was given, where it tells that.
abbrev pub write_tape : {C S : Type 0} → (S → Option (List ℕ)) → TcpLink C S → Tape
write_tape contents link = record (tcp_tape link) { written = contents link.stream }

-- A door tells its port while it holds a listener, and nothing of its links.
abbrev pub tcp_register : {R S L : Type 0} → TcpDoor R S L → Register (TcpLink R S)
tcp_register door = record {
  port = option_map (λ listening. listening.1) door.listening;
  given = None;
  finished = None;
  faults = door.faults;
}

-- The system is short of memory (ENOMEM), descriptors (ENFILE, EMFILE) or buffers (ENOBUFS). That may pass.
abbrev pub IsShort : Error → Type 0
IsShort error =
    let code = raw_os_error error in
    (code ≡ Some (pos 12)) ⊎ (code ≡ Some (pos 23)) ⊎ (code ≡ Some (pos 24)) ⊎ (code ≡ Some (pos 105))
