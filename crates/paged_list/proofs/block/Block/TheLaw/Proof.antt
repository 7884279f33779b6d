-- A `&` to a block shows the value of each slot that holds one. Assumes `Logic`.
use Rattle.std.proofs.Common.{[], ◌++◌}
use base.Fml.{Incl-trans}
use contract.BorrowLft.{meet_⊑_left}
use denote.Param.Laws.{Laws}
use denote.Param.Shared.{copy_shared}
use denote.RattleType.{RattleType}
use denote.Struct.Field.{RawPtr-field}
use denote.Struct.Laws.{RawPtr-copy, field_copy}
use denote.Struct.Lending.{of_Lends}
use Rattle.std.specs.contracts.marker.PhantomData as phantom
use Rattle.std.specs.declared.alloc.Allocator.{Ghosts}
use Rattle.paged_list.specs.contracts.block.Block as block
use Rattle.paged_list.proofs.Showing.{shows_block, lends_block}
use Rattle.paged_list.proofs.block.Block.TheLaw.Statement.{statement}

pub shares : (R Z : RattleType) (g : Ghosts Z.Denot) (L : Laws R) (LZ : Laws Z) → statement R Z g L LZ
shares R Z g L LZ =
    let codes = block.the_codes R.Denot Z.Denot R.coded Z.coded (phantom.the_row Z).coded in
    let lives = (block.the_row R Z g).lives in
    of_Lends (block.struct R Z g) codes (block.the_heap R Z g) (block.the_lent R Z g) (λ d p. shows_block R L d.start d.holds)
    (copy_shared RawPtr-field RawPtr-copy, (copy_shared (phantom.the_field Z) (field_copy (phantom.the_type Z) tt), tt))
    (λ M 𝓤 𝓛 d p. lends_block R L 𝓛 lives (Incl-trans (meet_⊑_left (R.lives ++ (Z.lives ++ [])) _) (meet_⊑_left R.lives (Z.lives ++ []))) (g.dealloc_token d.from) d.start d.holds)
