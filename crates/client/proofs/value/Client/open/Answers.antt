use Rattle.std.proofs.Common.{List, ℕ, Err, MatchResult, sym, ap, ◌∙◌, subst}
use Rattle.model.specs.Client.{Enter, Finish}
use Rattle.client_channel.specs.Kept.{Kept}
use Rattle.client.specs.declared.refusal.Refusal.{Refusal}
use Rattle.client.specs.declared.refusal.Refusal.TheVariants.{AfterEof, Down}
use Rattle.client.specs.declared.refusal.Refused.TheVariants.{By}
use Rattle.client.specs.View.{view_of}
use Rattle.client.specs.Contract.{Refuses, Stopped}
use Rattle.client.specs.Checks.{MayEnter}
use Rattle.client.proofs.Places.{kept-at}
use Rattle.client.proofs.Refuse.{refused_by, stops, input-absent, input-down, input-after, eof-absent, eof-down, eof-after}
use Rattle.client.proofs.value.Client.open.Goals as goal

pub returns-in_err-i : goal.returns-in_err-i
returns-in_err-i c =
    let s = c.args.self.now in
    let b = c.in_ok-ready.ensures in
    let h = c.in_err-i.ensures in
    let e = refused_by _ _ c.from_residual-in_err-i.ensures ∙ ap (λ (f : Refusal). Err (By f)) h.0 in
    subst (λ r. MatchResult r (MayEnter c.args.channel (view_of s)) (λ e. Stopped (Finish c.args.channel) s e s × ((bytes : List ℕ) → Stopped (Enter c.args.channel bytes) s e s))) (sym e)
    (eof-absent s b c.args.channel h.1, λ bytes. input-absent s b c.args.channel h.1 bytes)

pub returns-in_err-connected : goal.returns-in_err-connected
returns-in_err-connected c =
    let s = c.args.self.now in
    let b = c.in_ok-ready.ensures in
    let at = c.in_ok-i.ensures in
    let h = c.in_err-connected.ensures in
    let e = refused_by _ _ c.from_residual-in_err-connected.ensures ∙ ap (λ (f : Refusal). Err (By f)) h.0 in
    subst (λ r. MatchResult r (MayEnter c.args.channel (view_of s)) (λ e. Stopped (Finish c.args.channel) s e s × ((bytes : List ℕ) → Stopped (Enter c.args.channel bytes) s e s))) (sym e) (
      subst (λ t. Refuses (Finish t) s Down s) at.number (eof-down s b c.in_ok-i.i at.within h.1),
      λ bytes. subst (λ t. Refuses (Enter t bytes) s Down s) at.number (input-down s b c.in_ok-i.i at.within bytes h.1),
    )

pub returns-then-index : goal.returns-then-index
returns-then-index c =
    let s = c.args.self.now in
    let b = c.in_ok-ready.ensures in
    let i = c.in_ok-i.i in
    let at = c.in_ok-i.ensures in
    let u = c.in_ok-connected.ensures in
    let f = ap (λ (k : Kept). k.eof) (kept-at s.channels i c.index.result.now at.within c.index.ensures) ∙ c.if-index.true in (
      stops _ _ _ AfterEof c.into.ensures (subst (λ t. Refuses (Finish t) s AfterEof s) at.number (eof-after s b i at.within u f)),
      λ bytes. stops _ _ _ AfterEof c.into.ensures (subst (λ t. Refuses (Enter t bytes) s AfterEof s) at.number (input-after s b i at.within bytes u f)),
    )
