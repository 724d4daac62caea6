use Rattle.mutual_pack.proofs.TagResults.{constructors-at-their-tags}
use Rattle.mutual_pack.proofs.laws.constructors_are_at_their_tags.Goals as goal

pub returns : goal.returns
returns c = constructors-at-their-tags
