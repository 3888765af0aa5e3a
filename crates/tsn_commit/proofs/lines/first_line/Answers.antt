use Rattle.tsn_commit.proofs.Gathering.{cut_at, no_cut}
use Rattle.tsn_commit.proofs.lines.first_line.Goals as goal

pub returns-in-Some-clause-first : goal.returns-in-Some-clause-first
returns-in-Some-clause-first c = (cut_at c.args.text.now c.memchr.result c.requires c.memchr.ensures c.in-Some.count c.in-Some.is).is

pub returns-in-Some-clause-line : goal.returns-in-Some-clause-line
returns-in-Some-clause-line c = (cut_at c.args.text.now c.memchr.result c.requires c.memchr.ensures c.in-Some.count c.in-Some.is).line_is

pub returns-in-Some-clause-others : goal.returns-in-Some-clause-others
returns-in-Some-clause-others c = (cut_at c.args.text.now c.memchr.result c.requires c.memchr.ensures c.in-Some.count c.in-Some.is).others

pub returns-in-None-clause-none : goal.returns-in-None-clause-none
returns-in-None-clause-none c = no_cut c.args.text.now c.memchr.result c.requires c.memchr.ensures c.in-None.is
