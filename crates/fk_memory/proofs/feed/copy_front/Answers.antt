use Rattle.std.proofs.Common.{◌≡◌, take, length, ℕ, List, ◌∙◌, ap, arith}
use Rattle.std.proofs.lemmas.List.{length-take-le}
use Rattle.fk_host.specs.declared.feed.TheConstants.{DATAGRAM_ROOM}
use Rattle.fk_memory.proofs.Feeds.{take_min, front_is}
use Rattle.fk_memory.proofs.feed.copy_front.Goals as goal

pub returns-clause-bytes : goal.returns-clause-bytes
returns-clause-bytes c =
    let bytes : List ℕ = c.args.bytes.now in
    let len : ℕ = c.min-len.result in
    let copied : List ℕ = c.copy_from_slice.new.self in
    let size : length copied ≡ len = c.copy_from_slice.ensures.len ∙ length-take-le len c.args.buf.now (omega (arith, c.min-len.ensures, c.told-buf)) in
    front_is copied _ len size
    ∙ c.copy_from_slice.ensures.after ∙ ap (λ n. take n bytes) c.min-len.ensures ∙ take_min bytes DATAGRAM_ROOM
