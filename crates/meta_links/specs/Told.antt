-- The first unknown reference, as it is met and as it is reported.
use Rattle.std.specs.Prelude.{ℕ, List, Option, None, Some}
use Rattle.std.specs.Option.{option_or}
use Rattle.meta_links.specs.Reference.{Reference, first_unknown}
use Rattle.meta_links.specs.declared.fault.LinkFault.{LinkFault}
use Rattle.meta_links.specs.declared.fault.LinkFault.TheVariants as fault

-- the first unknown reference, where one may have been met before these
unfoldable pub after : List (List (List ℕ)) → Option (List ℕ × List ℕ) → List Reference → Option (List ℕ × List ℕ)
after ids met references = option_or met (first_unknown ids references)

-- the first unknown reference, by its identifier and its path; running out of memory has none
abbrev pub link_cause : LinkFault → Option (List ℕ × List ℕ)
link_cause (fault.Unknown uid path) = Some (uid, path)
link_cause fault.Memory = None
