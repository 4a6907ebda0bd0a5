use Rattle.std.proofs.Common.{◌≡◌, ◌<◌, length, get_or, set, Some, None, sym, ap, ◌∙◌, subst, arith}
use Rattle.std.specs.List.{remove}
use Rattle.std.proofs.lemmas.List.{map-set}
use Rattle.client_channel.specs.Kept.{Kept, kept, fresh}
use Rattle.client_channel.specs.Steps.{next_of}
use Rattle.client_channel.specs.Held.{kept_of}
use Rattle.client.specs.Kepts.{kepts_of}
use Rattle.numbers.specs.Has.{has}
use Rattle.client.specs.View.{pending_of}
use Rattle.client.specs.Contract.{Hands}
use Rattle.client.proofs.Moves.{view}
use Rattle.client.proofs.Places.{kepts-forgotten, length-kepts, kept-at, unset}
use Rattle.client.proofs.HandOut.{facts-of, rest_of, close_of, sent-of, hands-idle, hands-rest, hands-sent, hands-closed}
use Rattle.client.proofs.value.Client.next_of_turn.Goals as goal

pub returns-in_err-i : goal.returns-in_err-i
returns-in_err-i c = subst (λ m. Hands c.args.self.now m c.args.self.now) (sym c.from_residual.ensures) (hands-idle c.args.self.now c.requires c.in_err-i.was)

pub returns-in_default : goal.returns-in_default
returns-in_default c =
    let s = c.args.self.now in
    let i = c.in_ok-i.i in
    let t = c.in_ok-i.was in
    let l : i < length (kepts_of s.channels) = (let h = s.turn_held i t in let e = length-kepts s.channels in omega arith) in
    let r = c.index_mut-held.result.now in
    let va = c.index_mut-held.ensures.value in
    let ki = kept-at s.channels i r l va in
    let k = get_or (kepts_of s.channels) i (fresh 0) in
    let f = rest_of k (kept c.next.new.self c.next.new.buffers) c.next.result c.in_default.is (facts-of k (kept c.next.new.self c.next.new.buffers) c.next.result (c.next.ensures ∙ ap next_of (sym ki))) in
    let same = unset s.channels i r (record { channel = c.next.new.self; buffers = c.next.new.buffers }) l va (f.0 ∙ ki) in
    hands-rest s c.requires i t l _ f.1 (λ j. view (same j) (has s.used) s.next s.accepted s.up (pending_of s.pending) None)

pub returns-in-Close : goal.returns-in-Close
returns-in-Close c =
    let s = c.args.self.now in
    let i = c.in_ok-i.i in
    let t = c.in_ok-i.was in
    let l : i < length (kepts_of s.channels) = (let h = s.turn_held i t in let e = length-kepts s.channels in omega arith) in
    let r = c.index_mut-held.result.now in
    let va = c.index_mut-held.ensures.value in
    let ki = kept-at s.channels i r l va in
    let k = get_or (kepts_of s.channels) i (fresh 0) in
    let k' = kept c.next.new.self c.next.new.buffers in
    let f = close_of k k' c.next.result (c.in-Some.is ∙ ap Some c.in-Close.is) (facts-of k k' c.next.result (c.next.ensures ∙ ap next_of (sym ki))) in
    let ek : kepts_of c.forget.new.self ≡ remove (kepts_of s.channels) i = kepts-forgotten i (set s.channels.held.items i (record { channel = c.next.new.self; buffers = c.next.new.buffers })) c.forget.new.self.held.items c.forget.ensures.held ∙ ap (λ ks. remove ks i) (unset s.channels i r _ l va (f.same ∙ ki)) in
    hands-closed s c.requires i t l k' c.in-Some.request r.channel.number _ f c.in-Close.is (ap (λ (z : Kept). z.number) ki) (λ j. view (ek j) (has s.used) s.next s.accepted s.up (c.requires j) None)

pub returns-in_default-request : goal.returns-in_default-request
returns-in_default-request c =
    let s = c.args.self.now in
    let i = c.in_ok-i.i in
    let t = c.in_ok-i.was in
    let l : i < length (kepts_of s.channels) = (let h = s.turn_held i t in let e = length-kepts s.channels in omega arith) in
    let r = c.index_mut-held.result.now in
    let ki = kept-at s.channels i r l c.index_mut-held.ensures.value in
    let k = get_or (kepts_of s.channels) i (fresh 0) in
    let k' = kept c.next.new.self c.next.new.buffers in
    let f = sent-of k k' c.next.result c.in-Some.request c.in-Some.is c.in_default-request.not-Close (facts-of k k' c.next.result (c.next.ensures ∙ ap next_of (sym ki))) in
    hands-sent s c.requires i t l k' c.in-Some.request r.channel.number _ f (ap (λ (z : Kept). z.number) ki)
    (λ j. view (map-set kept_of s.channels.held.items i (record { channel = c.next.new.self; buffers = c.next.new.buffers }) j) (has s.used) s.next s.accepted s.up (c.requires j) s.turn)
