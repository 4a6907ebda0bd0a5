use Rattle.std.proofs.Common.{length, Some, ap, arith, subst}
use Rattle.model.specs.Client.{Enter}
use Rattle.client_channel.specs.Kept.{Kept, kept}
use Rattle.numbers.specs.Has.{has}
use Rattle.client.specs.declared.refusal.Refusal.TheVariants.{TooMuch}
use Rattle.client.specs.View.{view_of}
use Rattle.client.specs.Contract.{Refuses}
use Rattle.client.proofs.Moves.{view, idle}
use Rattle.client.proofs.Places.{kept-at, set-at}
use Rattle.client.proofs.Calls.{entered_k, renamed, input-obeys}
use Rattle.client.proofs.Refuse.{stops, input-much}
use Rattle.client.proofs.value.Client.input.Goals as goal

pub returns-then-bytes-room : goal.returns-then-bytes-room
returns-then-bytes-room c =
    let s = c.args.self.now in
    let m = c.in_ok-i.ensures in
    let l = ap (λ (k : Kept). length k.waiting) (kept-at s.channels c.in_ok-i.i c.index.result.now m.place.within c.index.ensures) in
    let r = c.room.ensures in
    stops _ _ _ TooMuch c.into.ensures (subst (λ t. Refuses (Enter t c.args.bytes.now) s TooMuch s) m.place.number (input-much s m.idle c.in_ok-i.i m.place.within c.args.bytes.now m.up m.open_yet (omega (arith, c.if-bytes-room.true))))

pub returns : goal.returns
returns c =
    let s = c.args.self.now in
    let i = c.in_ok-i.i in
    let m = c.in_ok-i.ensures in
    let r = c.index_mut-held.result.now in
    let l = ap (λ (k : Kept). length k.waiting) (kept-at s.channels i c.index.result.now m.place.within c.index.ensures) in
    let n = c.room.ensures in
    let ek = set-at s.channels i r (record { channel = r.channel; buffers = record { input = c.append.new.self; output = r.buffers.output } }) (entered_k c.args.bytes.now) m.place.within c.index_mut-held.ensures.value (λ j. kept r.channel (record { input = c.append.ensures j; output = r.buffers.output })) in
    renamed (λ t. Enter t c.args.bytes.now) _ _ _ _ m.place.number
    (input-obeys s m.idle i m.place.within c.args.bytes.now _ m.up m.open_yet (omega (arith, c.if-bytes-room.false)) (λ j. view (ek j) (has s.used) s.next s.accepted s.up ((idle (view_of s) m.idle).pending j) (Some i)))
