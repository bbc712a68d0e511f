mod CompoundForms
mod CutTexts
mod ExpandedCompounds
mod LetterTerms
mod NonemptyNames
mod QuotedNames
mod TermArguments
mod TextFronts
