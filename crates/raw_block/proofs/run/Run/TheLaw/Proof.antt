-- A `&` to a run reaches its items. Assumes `Logic`.
use denote.Struct.Lending.{of_Lends}
use Rattle.raw_block.specs.contracts.run.Run as Run
use Rattle.raw_block.proofs.Places.{lent_laws, lends_run}
use Rattle.raw_block.proofs.run.Run.TheLaw.Statement.{statement}

pub shares : statement
shares =
    of_Lends Run.struct Run.the_codes Run.the_heap Run.the_lent (λ d p. lent_laws d.ptr d.items d.room) tt
    (λ M 𝓤 𝓛 d p. lends_run 𝓛 d.ptr d.items d.room)
