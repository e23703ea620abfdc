mod GroupLemmas
