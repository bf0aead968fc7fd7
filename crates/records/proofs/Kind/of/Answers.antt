use mathlib.Core.Path.{ap, sym}
use Rattle.records.specs.Records.{kind_of}
use Rattle.std.proofs.Common.{rules, tests}
use Rattle.records.proofs.Kind.of.Goals as goal

pub returns-in-16 : goal.returns-in-16
unfolding kind_of
returns-in-16 c = sym (ap kind_of c.in-16.is)

pub returns-in-17 : goal.returns-in-17
unfolding kind_of
returns-in-17 c = sym (ap kind_of c.in-17.is)

pub returns-in-18 : goal.returns-in-18
unfolding kind_of
returns-in-18 c = sym (ap kind_of c.in-18.is)

pub returns-in_default : goal.returns-in_default
unfolding kind_of
returns-in_default c = search (rules, tests)
