use Rattle.std.proofs.Common.{◌≡◌, false, get_or, set, Some, None, Ok, Err, sym, ap, ◌∙◌, subst}
use Rattle.std.specs.List.{remove}
use Rattle.std.proofs.lemmas.List.{map-set}
use Rattle.message.specs.Views.{reply as reply_of, fault}
use Rattle.client_channel.specs.Kept.{kept, fresh}
use Rattle.client_channel.specs.Steps.{hear_of, seen_heard, UnlessStays}
use Rattle.client_channel.specs.Held.{kept_of}
use Rattle.client.specs.Kepts.{kepts_of}
use Rattle.numbers.specs.Has.{has}
use Rattle.client.specs.View.{view_of, pending_of}
use Rattle.client.proofs.Moves.{view, idle}
use Rattle.client.proofs.Places.{kepts-forgotten, kept-at, unset}
use Rattle.client.proofs.Receives.{stays-takes, over-takes, fault-takes, rejected_by}
use Rattle.client.proofs.value.Client.hear_at.Goals as goal

pub returns-in-Ok-Some : goal.returns-in-Ok-Some
returns-in-Ok-Some c =
    let s = c.args.self.now in
    let r = c.index_mut-held.result.now in
    let ki = kept-at s.channels c.args.i r c.requires.held c.index_mut-held.ensures.value in
    let k' = kept c.in-Ok-Some.channel c.hear.new.buffers in
    let hk : hear_of (reply_of c.args.reply) (get_or (kepts_of s.channels) c.args.i (fresh 0)) ≡ Ok (Some k') = ap (hear_of (reply_of c.args.reply)) ki ∙ sym c.in-Ok-Some.ensures.heard ∙ ap (λ z. seen_heard (Ok z) c.hear.new.buffers) c.in-Ok-Some.field-0-is in
    stays-takes s c.requires.idle c.requires.up c.args.i c.requires.held c.args.reply k' _ hk
    (λ j. view (map-set kept_of s.channels.held.items c.args.i (record { channel = c.in-Ok-Some.channel; buffers = c.hear.new.buffers }) j) (has s.used) s.next s.accepted s.up ((idle (view_of s) c.requires.idle).pending j) (Some c.args.i))

pub returns-in-Ok-None : goal.returns-in-Ok-None
returns-in-Ok-None c =
    let s = c.args.self.now in
    let r = c.index_mut-held.result.now in
    let va = c.index_mut-held.ensures.value in
    let hk : hear_of (reply_of c.args.reply) (get_or (kepts_of s.channels) c.args.i (fresh 0)) ≡ Ok None = ap (hear_of (reply_of c.args.reply)) (kept-at s.channels c.args.i r c.requires.held va) ∙ sym c.in-Ok-None.ensures.heard ∙ ap (λ z. seen_heard (Ok z) c.hear.new.buffers) c.in-Ok-None.field-0-is in
    let same : c.hear.new.buffers ≡ r.buffers = subst (λ z. UnlessStays (Ok z) (c.hear.new.buffers ≡ r.buffers)) c.in-Ok-None.field-0-is c.in-Ok-None.ensures.same in
    let ek : kepts_of c.forget.new.self ≡ remove (kepts_of s.channels) c.args.i = kepts-forgotten c.args.i (set s.channels.held.items c.args.i (record { channel = r.channel; buffers = c.hear.new.buffers })) c.forget.new.self.held.items c.forget.ensures.held ∙ ap (λ ks. remove ks c.args.i) (unset s.channels c.args.i r _ c.requires.held va (ap (kept r.channel) same)) in
    over-takes s c.requires.idle c.requires.up c.args.i c.requires.held c.args.reply _ hk (λ j. view (ek j) (has s.used) s.next s.accepted s.up (pending_of s.pending) s.turn)

pub returns-in-Err : goal.returns-in-Err
returns-in-Err c =
    let s = c.args.self.now in
    let r = c.index_mut-held.result.now in
    let va = c.index_mut-held.ensures.value in
    let hk : hear_of (reply_of c.args.reply) (get_or (kepts_of s.channels) c.args.i (fresh 0)) ≡ Err (fault c.in-Err.fault) = ap (hear_of (reply_of c.args.reply)) (kept-at s.channels c.args.i r c.requires.held va) ∙ sym c.in-Err.ensures.heard in
    let same = unset s.channels c.args.i r (record { channel = r.channel; buffers = c.hear.new.buffers }) c.requires.held va (ap (kept r.channel) c.in-Err.ensures.same) in
    rejected_by _ _ _ _ c.in-Err.fault c.into.ensures (fault-takes s c.requires.idle c.requires.up c.args.i c.requires.held c.args.reply (fault c.in-Err.fault) _ hk (λ j. view (same j) (has s.used) s.next s.accepted false (pending_of s.pending) s.turn))
