use Rattle.std.proofs.Common.{true, Some, refl}
use Rattle.model.specs.Client.{Finish}
use Rattle.numbers.specs.Has.{has}
use Rattle.client.specs.View.{view_of}
use Rattle.client.proofs.Moves.{view, idle}
use Rattle.client.proofs.Places.{set-at}
use Rattle.client.proofs.Calls.{finished_k, renamed, eof-obeys}
use Rattle.client.proofs.value.Client.eof.Goals as goal

pub returns : goal.returns
returns c =
    let s = c.args.self.now in
    let i = c.in_ok-i.i in
    let m = c.in_ok-i.ensures in
    let r = c.index_mut-held.result.now in
    let ek = set-at s.channels i r (record { channel = record r.channel { eof = true }; buffers = r.buffers }) finished_k m.place.within c.index_mut-held.ensures.value refl in
    renamed Finish _ _ _ _ m.place.number (eof-obeys s m.idle i m.place.within _ m.up m.open_yet (λ j. view (ek j) (has s.used) s.next s.accepted s.up ((idle (view_of s) m.idle).pending j) (Some i)))
