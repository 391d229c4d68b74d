use Rattle.std.proofs.lemmas.Map.Text.{hash_map_updates_str}
use Rattle.idl_names.proofs.table.Table.put.Goals as goal

-- two tables that agree at each name are one function
pub returns : goal.returns
returns g c = λ j n. hash_map_updates_str c.args.name.now c.args.self.now.map c.insert.new.self _ c.in_ok-insert.ensures.updates n j
