use Rattle.std.proofs.Common.{◌<◌, ◌+◌, arith, ap, subst, sym}
use Rattle.tsn_bridge.specs.Names.{GivenOut}
use Rattle.tsn_bridge.proofs.Naming.{AreLeft, fewer_left, next_told}
use Rattle.tsn_bridge.proofs.sessions.Sessions.told.Goals as goal

pub loop-before-preserved : goal.loop-before-preserved
loop-before-preserved c =
    let given = c.args.self.now in
    let l = c.loop-before in
    let left = l.invariant.1 in
    let named = c.in_ok-name.ensures in
    let less : l.before < given.count = omega (arith, c.loop-before-test.true, ap (λ (g : GivenOut). g.count) c.self.view_is) in (
      next_told given.names c.args.journal.now.entries l.before l.sessions.items c.push.new.self.items c.in_ok-name.name
          c.count_of-standing.result
          l.invariant.0 named c.count_of-standing.ensures.count c.in_ok-push.ensures.items left,
      subst (λ names. AreLeft given.names names (l.before + 1) given.count) (sym c.behind-rest.ensures)
          (fewer_left given.names l.rest.now l.before given.count left less),
    )
