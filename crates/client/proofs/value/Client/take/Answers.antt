use Rattle.std.proofs.Common.{◌≡◌, min, ◌++◌, length, get_or, take, drop, Some, sym, ap, ◌∙◌, subst}
use Rattle.model.specs.Client.{Take, output_credit}
use Rattle.client_channel.specs.Kept.{Kept, kept, fresh}
use Rattle.client.specs.Kepts.{kepts_of}
use Rattle.numbers.specs.Has.{has}
use Rattle.client.specs.declared.refusal.Refusal.TheVariants.{NotHeld}
use Rattle.client.specs.View.{pending_of}
use Rattle.client.specs.Contract.{Gets}
use Rattle.client.proofs.Moves.{view}
use Rattle.client.proofs.Places.{kept-at, set-at}
use Rattle.client.proofs.Calls.{took_k, renamed, take-obeys, take-obeys-down, take-gets}
use Rattle.client.proofs.Refuse.{stopped, taking-absent}
use Rattle.client.proofs.value.Client.take.Goals as goal

pub returns-in_err-i-clause-obeyed : goal.returns-in_err-i-clause-obeyed
returns-in_err-i-clause-obeyed c = stopped _ _ _ _ NotHeld c.from_residual-in_err-i.ensures c.in_err-i.ensures.0 (taking-absent c.args.self.now c.in_ok-ready.ensures c.args.channel c.in_err-i.ensures.1 (length c.args.out.now))

pub returns-then-self-clause-obeyed : goal.returns-then-self-clause-obeyed
returns-then-self-clause-obeyed c =
    let s = c.args.self.now in
    let i = c.in_ok-i.i in
    let at = c.in_ok-i.ensures in
    let r = c.index_mut-held.result.now in
    let ki = kept-at s.channels i r at.within c.index_mut-held.ensures.value in
    let k = get_or (kepts_of s.channels) i (fresh 0) in
    let n = min (length c.args.out.now) (length k.unseen) in
    let en : c.take-count.result ≡ n = c.take-count.ensures.count ∙ ap (λ (z : Kept). min (length c.args.out.now) (length z.unseen)) (sym ki) in
    let ep : pending_of c.credit-self.result ≡ output_credit k.number n = c.credit-self.ensures ∙ ap (λ (z : Kept). output_credit z.number c.take-count.result) (sym ki) ∙ ap (output_credit k.number) en in
    let ek = set-at s.channels i r (record { channel = r.channel; buffers = record { input = r.buffers.input; output = c.take-count.new.self } }) (took_k n) at.within c.index_mut-held.ensures.value (λ j. kept r.channel (record { input = r.buffers.input; output = (c.take-count.ensures.left ∙ ap (λ m. drop m r.buffers.output) en) j })) in
    renamed (λ t. Take t (length c.args.out.now)) _ _ _ _ at.number (take-obeys s c.in_ok-ready.ensures i at.within (length c.args.out.now) _ c.if-self.true (λ j. view (ek j) (has s.used) s.next s.accepted s.up (ep j) (Some i)))

pub returns-else-self-clause-obeyed : goal.returns-else-self-clause-obeyed
returns-else-self-clause-obeyed c =
    let s = c.args.self.now in
    let i = c.in_ok-i.i in
    let at = c.in_ok-i.ensures in
    let r = c.index_mut-held.result.now in
    let ki = kept-at s.channels i r at.within c.index_mut-held.ensures.value in
    let n = min (length c.args.out.now) (length (get_or (kepts_of s.channels) i (fresh 0)).unseen) in
    let en : c.take-count.result ≡ n = c.take-count.ensures.count ∙ ap (λ (z : Kept). min (length c.args.out.now) (length z.unseen)) (sym ki) in
    let ek = set-at s.channels i r (record { channel = r.channel; buffers = record { input = r.buffers.input; output = c.take-count.new.self } }) (took_k n) at.within c.index_mut-held.ensures.value (λ j. kept r.channel (record { input = r.buffers.input; output = (c.take-count.ensures.left ∙ ap (λ m. drop m r.buffers.output) en) j })) in
    renamed (λ t. Take t (length c.args.out.now)) _ _ _ _ at.number (take-obeys-down s c.in_ok-ready.ensures i at.within (length c.args.out.now) _ c.if-self.false (λ j. view (ek j) (has s.used) s.next s.accepted s.up (pending_of s.pending) s.turn))

pub returns-then-self-clause-taken : goal.returns-then-self-clause-taken
returns-then-self-clause-taken c =
    let s = c.args.self.now in
    let at = c.in_ok-i.ensures in
    let ki = kept-at s.channels c.in_ok-i.i c.index_mut-held.result.now at.within c.index_mut-held.ensures.value in
    subst (λ t. Gets t s c.args.out.now c.take-count.result c.take-count.new.out) at.number
    (take-gets s c.in_ok-ready.ensures c.in_ok-i.i at.within c.args.out.now c.take-count.new.out c.take-count.result
    (c.take-count.ensures.count ∙ ap (λ (z : Kept). min (length c.args.out.now) (length z.unseen)) (sym ki))
    (c.take-count.ensures.taken ∙ ap (λ (z : Kept). take c.take-count.result z.unseen ++ drop c.take-count.result c.args.out.now) (sym ki)))

pub returns-else-self-clause-taken : goal.returns-else-self-clause-taken
returns-else-self-clause-taken c =
    let s = c.args.self.now in
    let at = c.in_ok-i.ensures in
    let ki = kept-at s.channels c.in_ok-i.i c.index_mut-held.result.now at.within c.index_mut-held.ensures.value in
    subst (λ t. Gets t s c.args.out.now c.take-count.result c.take-count.new.out) at.number
    (take-gets s c.in_ok-ready.ensures c.in_ok-i.i at.within c.args.out.now c.take-count.new.out c.take-count.result
    (c.take-count.ensures.count ∙ ap (λ (z : Kept). min (length c.args.out.now) (length z.unseen)) (sym ki))
    (c.take-count.ensures.taken ∙ ap (λ (z : Kept). take c.take-count.result z.unseen ++ drop c.take-count.result c.args.out.now) (sym ki)))
