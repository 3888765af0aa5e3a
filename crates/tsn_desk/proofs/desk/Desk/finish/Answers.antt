use Rattle.std.proofs.Common.{rules}
use Rattle.tsn_desk.proofs.Keeps.{ends}
use Rattle.tsn_desk.proofs.desk.Desk.finish.Goals as goal

pub fetch_add-requires : goal.fetch_add-requires
fetch_add-requires g c =
    let s = c.requires.served in (
      search rules,
      search rules,
      ends _ _ _ _ _ _ s.0.0 s.1.0 s.1.1 c.args.asked.now.value c.args.reply.now _ s.0.1 s.1.2 s.1.3
          c.requires.desk.1 s.1.4 s.2 c.requires.said,
    )
