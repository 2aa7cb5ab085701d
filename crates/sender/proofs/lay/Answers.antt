use Rattle.std.proofs.lemmas.List.FromFn.{fill_by_all}
use Rattle.std.proofs.Common.{length, arith}
use Rattle.sender.specs.Sent.{shown}
use Rattle.sender.proofs.lay.Goals as goal

pub returns : goal.returns
returns g c =
    let shows = (g.P.Placement.placing c.args.pile.now).shows in
    record {
      after = fill_by_all (λ k. shown c.args.coded.now (shows k)) c.loop-place.out (length c.args.out.now) 0 c.loop-place.auto.out
          (λ k l. c.loop-place.invariant k (omega (arith, c.loop-place.auto.out)));
    }
