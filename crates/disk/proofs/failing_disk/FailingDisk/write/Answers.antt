use Rattle.std.proofs.Common.{◌≡◌, Bool, sym, refl, ap, ◌∙◌, subst, arith}
use Rattle.std.proofs.lemmas.Bool.{both_ways}
use Rattle.disk.specs.Disks.{Wrote}
use Rattle.disk.specs.Failures.{torn}
use Rattle.disk.specs.declared.failing.Leaves.{Leaves}
use Rattle.disk.proofs.Kept.{none_written}
use Rattle.disk.proofs.Failed.{f-down, f-more, f-last, crash-new, crash-zeros}
use Rattle.disk.proofs.failing_disk.FailingDisk.write.Goals as goal

pub returns-then-not-self : goal.returns-then-not-self
returns-then-not-self g c =
    record {
      after = f-down g.D.Disk.meaning c.args.self.now c.args.b c.args.bytes.now c.if-not-self.true;
      answer = sym c.if-not-self.true;
      blocks = none_written _ c.args.b c.args.bytes.now _ c.if-not-self.true;
      down = λ e. refl;
    }

pub returns-then-self-gt0 : goal.returns-then-self-gt0
returns-then-self-gt0 g c =
    let a : c.is_ok-self.result ≡ g.D.Disk.meaning.up c.write-r.new.self = c.is_ok-self.ensures.value ∙ c.write-r.ensures.answer in
    record {
      after = f-more g.D.Disk.meaning c.args.self.now c.args.b c.args.bytes.now c.write-r.new.self c.is_ok-self.result
          c.if-not-self.false c.if-self-gt0.true c.write-r.ensures.after a;
      answer = sym c.is_ok-self.ensures.value;
      blocks = subst (λ (v : Bool). Wrote (g.D.Disk.meaning.block c.args.self.now.disk) c.args.b c.args.bytes.now v (g.D.Disk.meaning.block c.write-r.new.self)) (sym a) c.write-r.ensures.blocks;
      down = λ e. absurd (both_ways _ e c.if-not-self.false);
    }

pub returns-in-Old : goal.returns-in-Old
returns-in-Old g c =
    record {
      after = f-last g.D.Disk.meaning c.args.self.now c.args.b c.args.bytes.now _ c.if-not-self.false (omega arith)
          (sym (ap (λ (k : Leaves). torn g.D.Disk.meaning k c.args.self.now.disk c.args.b c.args.bytes.now) c.in-Old.is));
      answer = refl;
      blocks = none_written _ c.args.b c.args.bytes.now _ refl;
      down = λ e. absurd (both_ways _ e c.if-not-self.false);
    }

pub returns-in-New : goal.returns-in-New
returns-in-New g c =
    record {
      after = f-last g.D.Disk.meaning c.args.self.now c.args.b c.args.bytes.now _ c.if-not-self.false (omega arith)
          (c.write.ensures.after ∙ sym (ap (λ (k : Leaves). torn g.D.Disk.meaning k c.args.self.now.disk c.args.b c.args.bytes.now) c.in-New.is));
      answer = refl;
      blocks = crash-new _ _ c.args.b c.args.bytes.now _ c.write.ensures.blocks;
      down = λ e. absurd (both_ways _ e c.if-not-self.false);
    }

pub returns-in-Zeros : goal.returns-in-Zeros
returns-in-Zeros g c =
    record {
      after = f-last g.D.Disk.meaning c.args.self.now c.args.b c.args.bytes.now _ c.if-not-self.false (omega arith)
          (c.write-in-Zeros.ensures.after ∙ sym (ap (λ (k : Leaves). torn g.D.Disk.meaning k c.args.self.now.disk c.args.b c.args.bytes.now) c.in-Zeros.is));
      answer = refl;
      blocks = crash-zeros _ _ c.args.b c.args.bytes.now _ c.write-in-Zeros.ensures.blocks;
      down = λ e. absurd (both_ways _ e c.if-not-self.false);
    }
