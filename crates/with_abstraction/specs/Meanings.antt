-- The normal forms and abstractions that those of the code represent.
use Rattle.core_terms.specs.Meanings.{tree_of, tele_of}
use Rattle.with_abstraction.specs.Abstractions as pure
use Rattle.with_abstraction.specs.NormalForms as forms
use Rattle.with_abstraction.specs.declared.abstracted.Abstracted.{Abstracted}
use Rattle.with_abstraction.specs.declared.normal_forms.NormalForms.{NormalForms}

abbrev pub forms_of : NormalForms → forms.NormalForms
forms_of m = record { goal = tree_of m.goal; types = tele_of m.types; scrutinee = tree_of m.scrutinee }

abbrev pub abstracted_of : Abstracted → pure.Abstracted
abstracted_of a = record { telescope = tele_of a.tele; goal = tree_of a.goal; place = a.at; order = a.order }
