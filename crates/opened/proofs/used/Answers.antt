use Rattle.std.proofs.Common.{◌≡◌, ℕ, Bool, true, false, ◌||◌, List, Option, refl, sym, ap, ◌∙◌}
use Rattle.blocks.specs.Sets.{has}
use Rattle.blocks.specs.declared.Set.{Set}
use Rattle.blocks.proofs.Member.{has-none}
use Rattle.record.specs.declared.record.Record.{Record}
use Rattle.opened.specs.Opened.{held, has_in, any}
use Rattle.opened.proofs.First.{any-more, any-zero}
use Rattle.opened.proofs.used.Goals as goal
use Rattle.opened.proofs.used.Goals.{in-Some, in_default}

or_false : (a : Bool) → a ≡ (a || false)
or_false true = refl
or_false false = refl

pub loop-i-init : goal.loop-i-init
loop-i-init g c b h =
    ap (λ (s : List ℕ). has s b) c.empty-all.ensures ∙ has-none 256 b ∙ sym (any-zero (λ (k : ℕ). has_in (held (g.D.Disk.meaning.block c.args.disk.now) k) b))

pub loop-i-preserved : goal.loop-i-preserved
loop-i-preserved g c b h =
    let p : ℕ → Bool = λ k. has_in (held (g.D.Disk.meaning.block c.args.disk.now) k) b in
    let step : has c.match-held.all.bits b ≡ (has c.loop-i.all.bits b || has_in c.held.result b) = elim c.match-held.branch [
      | in-Some w ↦ ap (λ (s : Set). has s.bits b) w.all-is ∙ w.join.ensures b h ∙ ap (λ (o : Option Record). has c.loop-i.all.bits b || has_in o b) (sym w.in-Some.is)
      | in_default w ↦ ap (λ (s : Set). has s.bits b) w.all-is ∙ or_false (has c.loop-i.all.bits b) ∙ ap (λ (o : Option Record). has c.loop-i.all.bits b || has_in o b) (sym w.in_default.is)
    ] in
    step ∙ ap (λ (v : Bool). v || has_in c.held.result b) (c.loop-i.invariant b h)
    ∙ ap (λ (o : Option Record). any p c.loop-i.i || has_in o b) c.held.ensures
    ∙ sym (any-more p c.loop-i.i)
