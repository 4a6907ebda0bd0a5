use Rattle.std.proofs.Common.{rules, ◌+◌, ◌<◌, true, cond, eqb, [], ◌∷◌, ◌++◌, length, ap, ◌∙◌, ⊎_elim, arith}
use Rattle.std.proofs.lemmas.Bool.{cases_lt}
use Rattle.model.specs.Messages as model
use Rattle.client_channel.specs.Kept.{fresh}
use Rattle.client.specs.Kepts.{kepts_of}
use Rattle.numbers.specs.Has.{has}
use Rattle.client.specs.declared.refusal.Refusal.TheVariants.{BadNumber, TooManyHeld, Down}
use Rattle.client.proofs.Moves.{view, never}
use Rattle.client.proofs.Calls.{start-obeys}
use Rattle.client.proofs.Places.{length-kepts, kepts-started}
use Rattle.client.proofs.Refuse.{stopped, stops, start-bad, start-many, start-down}
use Rattle.client.proofs.value.Client.run.Goals as goal

pub returns-in_err-number : goal.returns-in_err-number
returns-in_err-number c = stopped _ _ _ _ BadNumber c.from_residual-in_err-number.ensures c.in_err-number.ensures.0 (start-bad c.args.self.now c.in_ok-ready.ensures c.args.channel c.args.command c.in_err-number.ensures.1)

pub returns-then-is_full : goal.returns-then-is_full
returns-then-is_full c = stops _ _ _ TooManyHeld c.into.ensures (start-many c.args.self.now c.in_ok-ready.ensures c.args.channel c.args.command c.in_ok-number.ensures.1 c.in_ok-number.ensures.2 (let l = length-kepts c.args.self.now.channels in omega (arith, c.is_full.ensures.0 c.if-is_full.true)))

pub returns-in_err-connected : goal.returns-in_err-connected
returns-in_err-connected c =
    let room : length (kepts_of c.args.self.now.channels) < 16 = ⊎_elim (λ h. h) (λ h. never _ (c.is_full.ensures.1 (let l = length-kepts c.args.self.now.channels in omega arith)) c.if-is_full.false) (cases_lt (length (kepts_of c.args.self.now.channels)) 16) in
    stopped _ _ _ _ Down c.from_residual-in_err-connected.ensures c.in_err-connected.ensures.0 (start-down c.args.self.now c.in_ok-ready.ensures c.args.channel c.args.command c.in_ok-number.ensures.1 c.in_ok-number.ensures.2 room c.in_err-connected.ensures.1)

pub returns : goal.returns
returns c =
    let s = c.args.self.now in
    let e = c.in_ok-number.ensures.0 in
    let room : length (kepts_of s.channels) < 16 = ⊎_elim (λ h. h) (λ h. never _ (c.is_full.ensures.1 (let l = length-kepts c.args.self.now.channels in omega arith)) c.if-is_full.false) (cases_lt (length (kepts_of s.channels)) 16) in
    start-obeys s c.in_ok-ready.ensures c.args.channel c.args.command _ (has c.insert.new.self) (λ n. c.insert.ensures n ∙ ap (λ t. cond (eqb n t) true (has s.used n)) e) c.in_ok-number.ensures.1 (omega (arith, c.in_ok-number.ensures.2)) room c.in_ok-connected.ensures
    (λ j. view ((kepts-started s.channels c.start.new.self c.start.ensures.1 c.in_ok-number.number (search rules) c.start.ensures.3 ∙ ap (λ t. kepts_of s.channels ++ fresh t ∷ []) e) j) (has c.insert.new.self) (c.args.channel + 1) s.accepted s.up (model.For (e j) (model.Run c.args.command) ∷ []) s.turn)
