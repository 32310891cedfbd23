-- What was read stands in the buffer, which has no more bytes than a head may have.
use Rattle.std.proofs.Common.{◌≡◌, ◌≤◌, ◌-◌, vec_len, length, []}
use Rattle.ghg_http.specs.Receive.{Grows, IsPrompt}
use Rattle.ghg_http.proofs.request.receive_request.Given as goal

abbrev pub invariant-head : goal.invariant-head
invariant-head g l =
    Grows (g.T.Told.tape l.fn.link) (g.T.Told.tape l.link) [] l.buffer.items × (length l.buffer.items ≤ 16384)
    × IsPrompt l.buffer.items × ((g.T.Told.tape l.link).faults ≡ (g.T.Told.tape l.fn.link).faults)

abbrev pub decreases-head : goal.decreases-head
decreases-head g l = 16384 - vec_len l.buffer
