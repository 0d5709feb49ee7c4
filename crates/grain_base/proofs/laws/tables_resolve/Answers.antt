use Rattle.grain_base.proofs.Entries.{front_once, table_front}
use Rattle.grain_base.proofs.laws.tables_resolve.Goals as goal

pub returns-clause-front : goal.returns-clause-front
returns-clause-front c bytes list front table is = front_once bytes front list is (table_front bytes list table)

pub returns-clause-one : goal.returns-clause-one
returns-clause-one c bytes a b first second = front_once bytes a b (table_front bytes a first) (table_front bytes b second)
