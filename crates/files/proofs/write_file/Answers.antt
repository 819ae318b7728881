-- `files::write_file` meets its contract.
use Rattle.definition.specs.Settings.{plain_settings}
use Rattle.files.proofs.Laws.{file-calm, file-done}
use Rattle.files.proofs.write_file.Goals as goal

pub write_one-v-requires : goal.write_one-v-requires
unfolding plain_settings
write_one-v-requires c = file-calm _ _ _ _ _ _ _ c.from.ensures c.fresh_writer-w.ensures c.requires.3 c.requires.4 c.requires.0 c.requires.2

pub returns : goal.returns
unfolding plain_settings
returns c = file-done _ _ _ _ c.args.found _ _ _ _ _ c.len-length.ensures.0 c.from.ensures c.fresh_writer-w.ensures c.write_one-v.ensures
