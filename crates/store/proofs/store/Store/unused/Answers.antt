use Rattle.std.proofs.Common.{◌≡◌, true, false, arith, rules, tests}
use Rattle.std.proofs.lemmas.Iterator.{IsFirst-from_position, YieldsList-from_slice}
use Rattle.store.specs.Leases.{Table, is_nothing}
use Rattle.store.proofs.Tables.{first-place}
use Rattle.store.proofs.store.Store.unused.Goals as goal

pub returns-clause-place : goal.returns-clause-place
returns-clause-place g c =
    let ls : Table = c.args.self.now.leases in
    first-place ls (omega arith) c.position.result
    (IsFirst-from_position _ _ c.position.result (λ x. is_nothing x ≡ true) (λ x. is_nothing x ≡ false) c.position.ensures.ran (YieldsList-from_slice ls (cc)) (λ x q k. search (rules, tests)) (λ x q k. search (rules, tests)))
