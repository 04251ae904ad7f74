-- `lines::inside` meets its contract: each line by the function of its kind.
use Rattle.lines.specs.Lines.{held}
use Rattle.lines.proofs.ToldLines.{says_none, says_of}
use Rattle.lines.proofs.inside.Goals as goal

pub returns-in_err-power-in-Power : goal.returns-in_err-power-in-Power
returns-in_err-power-in-Power c = says_of c.args.line.now c.in-Power.is (says_none c.in_err-power-in-Power.ensures c.from_residual.ensures)

pub returns-in_err-on-in-On : goal.returns-in_err-on-in-On
returns-in_err-on-in-On c = says_of c.args.line.now c.in-On.is (says_none c.in_err-on-in-On.ensures c.from_residual-in_err-on-in-On.ensures)

pub returns-in-Components : goal.returns-in-Components
unfolding held
returns-in-Components c = says_of c.args.line.now c.in-Components.is (c.number.ensures.says c.args.into.now)

pub returns-in-Volume : goal.returns-in-Volume
unfolding held
returns-in-Volume c = says_of c.args.line.now c.in-Volume.is (c.number-in-Volume.ensures.says c.args.into.now)

pub returns-in-Nonce : goal.returns-in-Nonce
unfolding held
returns-in-Nonce c = says_of c.args.line.now c.in-Nonce.is c.octets.ensures

pub returns-in-Data : goal.returns-in-Data
unfolding held
returns-in-Data c = says_of c.args.line.now c.in-Data.is c.octets-in-Data.ensures

pub returns-in-Reach : goal.returns-in-Reach
unfolding held
returns-in-Reach c = says_of c.args.line.now c.in-Reach.is (c.reach.ensures.says c.args.into.now)

pub returns-in-Tenths : goal.returns-in-Tenths
unfolding held
returns-in-Tenths c = says_of c.args.line.now c.in-Tenths.is (c.number-in-Tenths.ensures.says c.args.into.now)

pub returns-in-Level : goal.returns-in-Level
unfolding held
returns-in-Level c = says_of c.args.line.now c.in-Level.is (c.number-in-Level.ensures.says c.args.into.now)

pub returns-in-KeyBytes : goal.returns-in-KeyBytes
unfolding held
returns-in-KeyBytes c = says_of c.args.line.now c.in-KeyBytes.is c.octets-in-KeyBytes.ensures
