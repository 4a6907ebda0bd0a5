use Rattle.std.proofs.Common.{◌≡◌, Ok, Err, None, Result, rules, refl, sym, ◌∙◌, subst}
use Rattle.std.specs.Result.{result_err}
use Rattle.stream.specs.Receivers.{Nexts}
use Rattle.stream.proofs.Receiving.{next-again, nexts-is}
use Rattle.stream.proofs.receiver.Receiver.next.Goals as goal

no-fault : {T E : Type 0} (r : Result T E) → ((x : E) → r ≡ Err x → ⊥) → result_err r ≡ None
no-fault (Ok x) h = refl
no-fault (Err e) h = absurd (h e refl)

pub returns-in_err-unbroken : goal.returns-in_err-unbroken
returns-in_err-unbroken g c =
    let f = c.in_err-unbroken.field-0.0 in
    let e : c.from_residual.result ≡ Err f = search rules in
    subst (λ r. Nexts g.M.Codec.code c.args.self.now c.args.piece.now r c.args.self.now) (sym e)
    (λ s h i. next-again s g.M.Codec.code.known h c.args.self.now c.args.piece.now f i (search rules))

pub returns-in-Err : goal.returns-in-Err
returns-in-Err g c =
    let rf : c.args.self.now.fault ≡ None = search rules in
    nexts-is g.M.Codec.code c.args.self.now _ c.args.piece.now (Err c.in-Err.fault) rf refl (c.in-Err.ensures (c.args.self.now.short rf))

pub returns-in_default : goal.returns-in_default
returns-in_default g c =
    let rf : c.args.self.now.fault ≡ None = search rules in
    nexts-is g.M.Codec.code c.args.self.now _ c.args.piece.now c.arrived.result rf (rf ∙ sym (no-fault c.arrived.result c.in_default.not-Err))
    (c.arrived.ensures (c.args.self.now.short rf))
