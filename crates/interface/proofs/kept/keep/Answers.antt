-- `keep`: what is saved has its length.
-- Assumes nothing.
use Rattle.state_bytes.proofs.AllSaves.{all_saves}
use Rattle.interface.proofs.kept.keep.Goals as goal

pub returns-clause-saves : goal.returns-clause-saves
returns-clause-saves c = all_saves c.args.d.after _ c.well_formed.1.1.1.0.1.1.1.0
