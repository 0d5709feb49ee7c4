use Rattle.grain.proofs.StripRoundTrip.{belongs_again, bytes_again, chains_again, rest_again}
use Rattle.grain.proofs.laws.positions.stripped_positions_come_back.Goals as goal

pub returns-clause-belongs : goal.returns-clause-belongs
returns-clause-belongs c = belongs_again

pub returns-clause-bytes : goal.returns-clause-bytes
returns-clause-bytes c = bytes_again

pub returns-clause-chains : goal.returns-clause-chains
returns-clause-chains c = chains_again

pub returns-clause-rest : goal.returns-clause-rest
returns-clause-rest c p q r s stripped attached = rest_again p q r stripped.rest attached.rest
