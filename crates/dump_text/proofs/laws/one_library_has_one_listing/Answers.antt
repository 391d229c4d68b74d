use Rattle.dump_text.proofs.ListingLaws.{listing_of}
use Rattle.std.proofs.Common.{sym, ◌∙◌}
use Rattle.dump_text.proofs.laws.one_library_has_one_listing.Goals as goal

pub returns : goal.returns
returns c = λ lib one other text other_text denoted denoted_other is is_other.
    listing_of lib one text denoted is ∙ sym (listing_of lib other other_text denoted_other is_other)
